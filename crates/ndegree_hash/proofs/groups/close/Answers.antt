use Rattle.std.proofs.Common.{List, ap, get_or, length, refl, subst, sym, ℕ, ◌++◌, ◌∙◌, ◌<◌, append-nil}
use Rattle.rdf_terms.specs.Document.{dataset as dataset_of}
use Rattle.ndegree_hash.specs.KnownNodes.{IsTrail}
use Rattle.ndegree_hash.specs.Log.{LogsFront, LogsInTurn}
use Rattle.tie_witness.specs.Witness.{TailMayBeChecked}
use Rattle.ndegree_hash.proofs.Closing.{aside-fits, close-chosen, close-none, others-may_be_checked, ties-are}
use Rattle.ndegree_hash.proofs.Keeping.{IsTrail-take, known-closed}
use Rattle.ndegree_hash.proofs.Logging.{front-whole, on_err}
use Rattle.rdf_terms.specs.declared.limits.TheConstants.{MOST_NUMBERS}
use Rattle.ndegree_hash.proofs.groups.close.Goals as goal

pub returns-then-not-has_choice-clause-leads : goal.returns-then-not-has_choice-clause-leads
returns-then-not-has_choice-clause-leads c =
    close-none c.args.canon.now.list c.args.trail.now.list c.undo.new.self.list c.args.frame.now c.args.frame.now c.requires.at
    (sym c.has_choice.ensures ∙ c.if-not-has_choice.true) c.undo.ensures.list (sym (append-nil c.args.frame.now.text.items)) refl refl

pub returns-then-not-has_choice-clause-keeps : goal.returns-then-not-has_choice-clause-keeps
returns-then-not-has_choice-clause-keeps c = record {
  known = λ D k t. known-closed D c.args.canon.now.list c.args.trail.now.list c.undo.new.self.list c.args.frame.now c.args.frame.now refl refl (sym c.has_choice.ensures ∙ c.if-not-has_choice.true) k;
  trail = λ D k t. subst (IsTrail D c.args.canon.now.list) (sym c.undo.ensures.list) (IsTrail-take D c.args.canon.now.list c.args.frame.now.mark c.args.trail.now.list t);
}

pub take_chosen-requires-clause-nodes : goal.take_chosen-requires-clause-nodes
take_chosen-requires-clause-nodes c =
    λ aside k d h. aside-fits (dataset_of c.args.dataset.now) c.args.canon.now.list c.args.trail.now.list c.args.frame.now MOST_NUMBERS
    (sym c.has_choice.ensures ∙ c.if-not-has_choice.false) aside c.requires.known c.requires.fits k d h

pub log_others-requires-clause-lists : goal.log_others-requires-clause-lists
log_others-requires-clause-lists c =
    subst (λ (others : List (List ℕ)). (k : ℕ) (d : List ℕ) → k < length others
    → TailMayBeChecked (dataset_of c.args.dataset.now) c.args.canon.now.list c.args.frame.now.mark c.take_chosen.new.trail.list (get_or others k d)) (sym c.as_slice.ensures.value)
    (others-may_be_checked (dataset_of c.args.dataset.now) c.args.canon.now.list c.args.trail.now.list c.take_chosen.new.trail.list c.args.frame.now c.requires.at
    (sym c.has_choice.ensures ∙ c.if-not-has_choice.false) c.in_ok-take_chosen.ensures.list c.requires.ties)

pub returns-clause-leads : goal.returns-clause-leads
returns-clause-leads c =
    close-chosen c.args.canon.now.list c.args.trail.now.list c.take_chosen.new.trail.list c.args.frame.now _ c.requires.at
    (sym c.has_choice.ensures ∙ c.if-not-has_choice.false) c.in_ok-take_chosen.ensures.list
    (c.in_ok-extend_from_slice.ensures.items ∙ ap (λ l. c.args.frame.now.text.items ++ l) c.chosen.ensures) refl refl

pub returns-clause-logs : goal.returns-clause-logs
returns-clause-logs c =
    subst (λ ties. LogsInTurn (dataset_of c.args.dataset.now) ties c.args.ties.now c.log_others.new.ties)
    (ties-are c.args.canon.now.list c.args.trail.now.list c.take_chosen.new.trail.list c.args.frame.now _ c.requires.at
    (sym c.has_choice.ensures ∙ c.if-not-has_choice.false) c.in_ok-take_chosen.ensures.list c.as_slice.ensures.value)
    c.in_ok-log_others.ensures.logs

pub returns-in_err-log_others-clause-front : goal.returns-in_err-log_others-clause-front
returns-in_err-log_others-clause-front c =
    on_err _ _ (subst (λ ties. LogsFront (LogsInTurn (dataset_of c.args.dataset.now)) ties c.args.ties.now c.log_others.new.ties)
    (ties-are c.args.canon.now.list c.args.trail.now.list c.take_chosen.new.trail.list c.args.frame.now _ c.requires.at
    (sym c.has_choice.ensures ∙ c.if-not-has_choice.false) c.in_ok-take_chosen.ensures.list c.as_slice.ensures.value)
    c.in_err-log_others.ensures.front)

pub returns-in_err-extend_from_slice-clause-front : goal.returns-in_err-extend_from_slice-clause-front
returns-in_err-extend_from_slice-clause-front c =
    on_err _ _ (front-whole (dataset_of c.args.dataset.now) _ c.args.ties.now c.log_others.new.ties
    (subst (λ ties. LogsInTurn (dataset_of c.args.dataset.now) ties c.args.ties.now c.log_others.new.ties)
    (ties-are c.args.canon.now.list c.args.trail.now.list c.take_chosen.new.trail.list c.args.frame.now _ c.requires.at
    (sym c.has_choice.ensures ∙ c.if-not-has_choice.false) c.in_ok-take_chosen.ensures.list c.as_slice.ensures.value)
    c.in_ok-log_others.ensures.logs))
