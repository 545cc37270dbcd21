use Rattle.std.proofs.Common.{◌≡◌, Bool, true, List, [], ◌∷◌, ◌++◌, inl, inr, if◌then◌else◌}
use Rattle.rdf_terms.specs.Lists.{In}
use Rattle.rdf_terms.specs.Document.{Adds}
use Rattle.rdf_terms.specs.declared.term.Label.{Label}
use Rattle.rdf_terms.specs.contracts.term.LabelPartialEq.TheImpl.{eq-value}
use Rattle.rdf_terms.proofs.Membership.{inserted}
use Rattle.rdf_terms.proofs.SameTerm.{labels_tell}
use Rattle.rdf_terms.proofs.finish.keep.Goals as goal

last : (old new : List Label) (l : Label) (b : Bool) → b ≡ true → (¬ (In l old)) → Adds old l new → new ≡ old ++ (if b then l ∷ [] else [])
last old new l b is absent (inl p) = absurd (absent p.1)
last old new l b is absent (inr p) = rw is p.0

pub returns-in_ok-insert : goal.returns-in_ok-insert
returns-in_ok-insert c = last _ _ c.args.label c.args.is_used c.if-is_used.true c.requires (inserted eq-value.it labels_tell _ _ c.args.label c.in_ok-insert.ensures.keys)
