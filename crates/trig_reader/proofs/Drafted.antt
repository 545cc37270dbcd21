-- What is known of a text whose draft was made.
use Rattle.std.proofs.Common.{◌<◌, ◌≤◌, List, Option, length}
use Rattle.std.specs.Prelude.{IsUtf8}
use Rattle.rdf_terms.proofs.Common.{Text, Statement, Document, statements, Finishes}
use Rattle.rdf_terms.specs.declared.term.Label.{Label}
use Rattle.trig_terms.specs.Meaning.{says}
use Rattle.trig_builder.specs.declared.TheConstants.{MAX_QUADS}
use Rattle.trig_reader.specs.Document.{AreStated, IsTriG, IsTooMany}
use Rattle.trig_reader.specs.Reading.{IsDraftOf}
use Rattle.trig_reader.proofs.Numbering.{many_stated, within_stated}

read_as : (text : Text) (base : Option Text) (draft : Document) (labels : List Label) (sts : List Statement) → IsUtf8 text → (is : IsDraftOf text base draft)
    → AreStated (says base is.leaves).told labels sts → IsTriG text base labels sts
read_as text base draft labels sts utf8 is stated = record {
  utf8 = utf8;
  tokens = is.tokens;
  leaves = is.leaves;
  are_tokens = is.are_tokens;
  sentence = is.sentence;
  are_leaves = is.are_leaves;
  defined = is.defined;
  states = stated;
}

pub too_many : (text : Text) (base : Option Text) (draft : Document) → IsUtf8 text → IsDraftOf text base draft → MAX_QUADS < length (statements draft) → IsTooMany text base
too_many text base draft utf8 is many =
    let stated = many_stated draft (says base is.leaves).told is.drafts many in
    record { labels = stated.labels; statements = stated.sts; is = read_as text base draft stated.labels stated.sts utf8 is stated.stated; many = stated.many }

pub whole_read : (text : Text) (base : Option Text) (draft whole : Document) → IsUtf8 text → IsDraftOf text base draft → length (statements draft) ≤ MAX_QUADS → Finishes draft whole
    → IsTriG text base whole.labels (statements whole)
whole_read text base draft whole utf8 is within finishes =
    read_as text base draft whole.labels (statements whole) utf8 is (within_stated draft whole (says base is.leaves).told is.drafts within finishes)
