use Rattle.std.proofs.Common.{sym, ◌∙◌, subst}
use Rattle.dataset_index.specs.QuadOrder.{Ascend}
use Rattle.lean_search.specs.Steps.{IsMapBy}
use Rattle.lean_search.specs.Workspace.{state_of}
use Rattle.lean_search.proofs.Ending.{is_lean_form, is_past_limit, lean_of_true, past_of_false}
use Rattle.lean_search.proofs.search.lean_of.Goals as goal

pub returns-then-is_lean-clause-form : goal.returns-then-is_lean-clause-form
returns-then-is_lean-clause-form c =
    is_lean_form c.args.graph.now c.requires c.args.limit (state_of c.search.new.workspace) (lean_of_true c.args.graph.now c.args.limit
    (state_of c.search.new.workspace) c.in_ok-is_lean.is_lean c.if-is_lean.true c.in_ok-is_lean.ensures.searched) c.in_ok-form.form (c.in_ok-form.ensures.quads ∙ c.in_ok-quads.ensures.quads)
    (subst Ascend (sym c.in_ok-form.ensures.quads) c.in_ok-quads.ensures.ascend)
    (subst (λ steps. IsMapBy c.args.graph.now steps c.in_ok-form.form.map) c.as_slice.ensures.value c.in_ok-form.ensures.map)

pub returns-clause-stop : goal.returns-clause-stop
returns-clause-stop c =
    is_past_limit c.args.graph.now c.args.limit (state_of c.search.new.workspace) c.in_ok-quads.quads c.requires c.in_ok-quads.ensures.quads c.in_ok-quads.ensures.ascend
    (past_of_false c.args.graph.now c.args.limit (state_of c.search.new.workspace) c.in_ok-is_lean.is_lean c.if-is_lean.false c.in_ok-is_lean.ensures.searched)
