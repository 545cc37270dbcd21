use Rattle.std.proofs.Common.{ℕ, List, Bor, refl, inl, inr, arith}
use Rattle.std.proofs.lemmas.Option.{IfSome_then}
use Rattle.terminals.proofs.Escaping.{uchar_found, uchar_none}
use Rattle.terminals.proofs.escapes.uchar.Goals as goal

pub returns-in-u-clause-found : goal.returns-in-u-clause-found
returns-in-u-clause-found c =
    IfSome_then {X = ℕ × Bor (List ℕ)} _ c.named_by_number.ensures.found
    (λ x one. uchar_found c.args.text.now _ _ x.1.now c.in_ok-letter.letter 4 x.0 c.in_ok-after.ensures.found (omega (arith, c.in-u.is)) c.in_ok-letter.ensures.found (inl (c.in-u.is, refl)) one)

pub returns-in-U-clause-found : goal.returns-in-U-clause-found
returns-in-U-clause-found c =
    IfSome_then {X = ℕ × Bor (List ℕ)} _ c.named_by_number-in-U.ensures.found
    (λ x one. uchar_found c.args.text.now _ _ x.1.now c.in_ok-letter.letter 8 x.0 c.in_ok-after.ensures.found (omega (arith, c.in-U.is)) c.in_ok-letter.ensures.found (inr (c.in-U.is, refl)) one)

pub returns-in_default-clause-none : goal.returns-in_default-clause-none
returns-in_default-clause-none c =
    uchar_none c.args.text.now _ _ c.in_ok-letter.letter c.in_ok-after.ensures.found c.in_ok-letter.ensures.found (λ e. omega arith) (λ e. omega arith)
