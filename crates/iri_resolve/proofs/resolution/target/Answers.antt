use Rattle.iri_resolve.specs.Parts.{components_of}
use Rattle.iri_resolve.proofs.Targets.{target-scheme, target-authority, target-below, is_some-option_copied, option_copied-or}
use Rattle.iri_resolve.proofs.resolution.target.Goals as goal

pub returns-then-is_some : goal.returns-then-is_some
returns-then-is_some c =
    let base = components_of c.args.base.now in
    let reference = components_of c.args.reference.now in
    rw c.requires (target-scheme base reference (is_some-option_copied _ _ c.if-is_some.ensures))

pub returns-then-is_some-2 : goal.returns-then-is_some-2
returns-then-is_some-2 c =
    let base = components_of c.args.base.now in
    let reference = components_of c.args.reference.now in
    rw c.requires (target-authority base reference (is_some-option_copied _ _ c.if-is_some.ensures) (is_some-option_copied _ _ c.if-is_some-2.ensures))

pub returns-else-is_some-2 : goal.returns-else-is_some-2
returns-else-is_some-2 c =
    let base = components_of c.args.base.now in
    let reference = components_of c.args.reference.now in
    rw (c.requires, c.query_below.ensures, option_copied-or c.args.reference.now.query c.args.base.now.query)
    (target-below base reference (is_some-option_copied _ _ c.if-is_some.ensures) (is_some-option_copied _ _ c.if-is_some-2.ensures))
