use Rattle.std.proofs.Common.{◌≡◌, ◌++◌, length, get_or, ap, ◌∙◌, arith}
use Rattle.std.specs.Prelude.{flat_map}
use Rattle.rdf_terms.proofs.Common.{numbers_below, term_at}
use Rattle.lean_search.specs.Lean.{map_by}
use Rattle.rdfc_cli.specs.Leaning.{line_of, mapped_line}
use Rattle.rdfc_cli.proofs.Leaning.{is_map_text, one_more_line}
use Rattle.rdfc_cli.proofs.lean_text.map_text.Goals as goal

pub loop-node-preserved : goal.loop-node-preserved
loop-node-preserved c =
    let line = mapped_line (map_by c.args.graph.now.terms c.args.form.now.map) in
    c.in_ok-push_mapped_number.ensures
    ∙ ap (λ t. c.loop-node.out.items ++ line_of c.loop-node.node t) (λ i. term_at (c.terms.ensures.terms i) (get_or (c.as_slice-map.ensures i) c.loop-node.node 0))
    ∙ ap (λ l. l ++ line c.loop-node.node) c.loop-node.invariant
    ∙ one_more_line line c.loop-node.node

pub returns : goal.returns
returns c limit lean =
    let line = mapped_line (map_by c.args.graph.now.terms c.args.form.now.map) in
    let all : c.loop-node.node ≡ length c.args.graph.now.labels = (let a = c.loop-node-test.false in let b = c.loop-node.auto.node-end in let n = c.node_count-node-end.ensures.count in omega arith) in
    is_map_text c.args.graph.now limit c.args.form.now lean _ (c.new.ensures ∙ c.loop-node.invariant ∙ ap (λ n. flat_map line (numbers_below n)) all)
