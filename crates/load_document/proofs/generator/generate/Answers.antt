use Rattle.std.proofs.Common.{◌*◌, ◌≤◌, ◌≡◌, ◌∙◌, length, sym, subst}
use Rattle.load_document.specs.LoadDocument.{load_document, IsReadable}
use Rattle.load_document.proofs.Whole.{both_parts}
use Rattle.load_document.proofs.Sizes.{document-short}
use Rattle.load_document.proofs.NoFault.{document-readable}
use Rattle.load_document.proofs.generator.generate.Goals as goal

pub returns-clause-text : goal.returns-clause-text
returns-clause-text c = both_parts c.args.number _ _ c.new.result c.new-out.ensures.items c.in_ok-push_ring.ensures (c.new.ensures ∙ c.in_ok-push_pairs.ensures)

pub returns-clause-short : goal.returns-clause-short
returns-clause-short c =
    let text : c.new.result ≡ load_document c.args.number = both_parts c.args.number _ _ c.new.result c.new-out.ensures.items c.in_ok-push_ring.ensures (c.new.ensures ∙ c.in_ok-push_pairs.ensures) in
    subst (λ bytes. length bytes ≤ 100 * c.args.number) (sym text) (document-short c.args.number c.requires.greatest)

pub returns-clause-readable : goal.returns-clause-readable
returns-clause-readable c =
    let text : c.new.result ≡ load_document c.args.number = both_parts c.args.number _ _ c.new.result c.new-out.ensures.items c.in_ok-push_ring.ensures (c.new.ensures ∙ c.in_ok-push_pairs.ensures) in
    subst IsReadable (sym text) (document-readable c.args.number c.requires.least c.requires.greatest)
