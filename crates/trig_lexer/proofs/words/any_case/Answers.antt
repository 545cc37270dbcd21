use Rattle.std.proofs.Common.{length, refl, sym, ◌∙◌, true≢false}
use Rattle.terminals.proofs.Outcomes.{IfNone_since}
use Rattle.trig_lexer.specs.Words.{IsInAnyCase}
use Rattle.trig_lexer.proofs.WordFronts.{front_found, front_differs, front_cut, any_case_length, cut_is, cut_utf8}
use Rattle.trig_lexer.proofs.words.any_case.Goals as goal

pub returns-in_err-front-clause-none : goal.returns-in_err-front-clause-none
returns-in_err-front-clause-none c =
    IfNone_since _ _
    (front_cut c.args.kind (IsInAnyCase c.args.word.now) (length c.args.word.now) (any_case_length c.args.word.now c.requires) c.args.text.now c.utf8.text
    (λ boundary. true≢false (sym (c.in_err-front.ensures.variant.1 boundary))))

pub returns-then-eq_ignore_ascii_case-clause-found : goal.returns-then-eq_ignore_ascii_case-clause-found
returns-then-eq_ignore_ascii_case-clause-found c =
    front_found c.args.kind (IsInAnyCase c.args.word.now) (length c.args.word.now) (any_case_length c.args.word.now c.requires) c.args.text.now _ _
    (cut_is c.args.text.now _ _ (length c.args.word.now) c.in_ok-front.ensures.front c.in_ok-front.ensures.back)
    (c.eq_ignore_ascii_case.ensures.test.0 c.if-eq_ignore_ascii_case.true)
    (cut_utf8 c.args.text.now _ (length c.args.word.now) c.in_ok-front.ensures.back c.utf8.text (c.in_ok-front.ensures.variant.0 refl))

pub returns-else-eq_ignore_ascii_case-clause-none : goal.returns-else-eq_ignore_ascii_case-clause-none
returns-else-eq_ignore_ascii_case-clause-none c =
    front_differs c.args.kind (IsInAnyCase c.args.word.now) (length c.args.word.now) (any_case_length c.args.word.now c.requires) c.args.text.now _ _
    (cut_is c.args.text.now _ _ (length c.args.word.now) c.in_ok-front.ensures.front c.in_ok-front.ensures.back)
    c.in_ok-front.ensures.front_len
    (λ same. true≢false (sym (c.eq_ignore_ascii_case.ensures.test.1 same) ∙ c.if-eq_ignore_ascii_case.false))
