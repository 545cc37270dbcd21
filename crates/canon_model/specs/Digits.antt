-- The text of a hash as code holds it.
use Rattle.rdf_terms.specs.Lists.{Text}
use Rattle.canon_model.specs.declared.digits.Digits.{Digits}
use Rattle.canon_model.specs.declared.digits.Digits.TheVariants.{Short, Long}

abbrev pub text_of : Digits → Text
text_of (Short digits) = digits
text_of (Long digits) = digits
