use Rattle.std.proofs.Common.{sym, ap, ◌∙◌}
use Rattle.std.specs.Cmp.Lexicographic.{texts_ties}
use Rattle.std.specs.Ordering.{is_eq}
use Rattle.canon_core.proofs.hashed_node.HashedNode.has_hash_of.Goals as goal

pub returns : goal.returns
returns c = c.is_eq.ensures ∙ ap is_eq c.compare_hashes.ensures ∙ sym (texts_ties c.args.self.now.0 c.args.other.now.0)
