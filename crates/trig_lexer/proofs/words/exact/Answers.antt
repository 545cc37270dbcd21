use Rattle.std.proofs.Common.{◌≡◌, length, refl, sym, ◌∙◌, true≢false}
use Rattle.std.proofs.lemmas.Slice.Eq.{bytes_eq-Decides}
use Rattle.terminals.proofs.Outcomes.{IfNone_since}
use Rattle.trig_lexer.proofs.WordFronts.{front_found, front_differs, front_cut, exact_length, cut_is, cut_utf8}
use Rattle.trig_lexer.proofs.words.exact.Goals as goal

pub returns-in_err-front-clause-none : goal.returns-in_err-front-clause-none
returns-in_err-front-clause-none c =
    IfNone_since _ _
    (front_cut c.args.kind (λ spelled. spelled ≡ c.args.word.now) (length c.args.word.now) (exact_length c.args.word.now c.requires) c.args.text.now c.utf8.text
    (λ boundary. true≢false (sym (c.in_err-front.ensures.variant.1 boundary))))

pub returns-then-eq-clause-found : goal.returns-then-eq-clause-found
returns-then-eq-clause-found c =
    front_found c.args.kind (λ spelled. spelled ≡ c.args.word.now) (length c.args.word.now) (exact_length c.args.word.now c.requires) c.args.text.now _ _
    (cut_is c.args.text.now _ _ (length c.args.word.now) c.in_ok-front.ensures.front c.in_ok-front.ensures.back)
    ((bytes_eq-Decides c.in_ok-front.front.now c.args.word.now).0 (sym c.eq.ensures ∙ c.if-eq.true))
    (cut_utf8 c.args.text.now _ (length c.args.word.now) c.in_ok-front.ensures.back c.utf8.text (c.in_ok-front.ensures.variant.0 refl))

pub returns-else-eq-clause-none : goal.returns-else-eq-clause-none
returns-else-eq-clause-none c =
    front_differs c.args.kind (λ spelled. spelled ≡ c.args.word.now) (length c.args.word.now) (exact_length c.args.word.now c.requires) c.args.text.now _ _
    (cut_is c.args.text.now _ _ (length c.args.word.now) c.in_ok-front.ensures.front c.in_ok-front.ensures.back)
    c.in_ok-front.ensures.front_len
    (λ same. true≢false (sym ((bytes_eq-Decides c.in_ok-front.front.now c.args.word.now).1 same) ∙ sym c.eq.ensures ∙ c.if-eq.false))
