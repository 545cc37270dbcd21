use Rattle.std.proofs.Common.{ℕ, List, ◌⊎◌, inl, inr}
use Rattle.terminals.specs.Escapes.{IsUchar, IsEchar, BeginsWithNoOne}
use Rattle.terminals.proofs.Outcomes.{IfNone_then}
use Rattle.terminals.proofs.escapes.string_escape.Goals as goal

neither : (text : List ℕ) → BeginsWithNoOne IsUchar text → BeginsWithNoOne IsEchar text → BeginsWithNoOne (λ spelled c. IsUchar spelled c ⊎ IsEchar spelled c) text
neither text p q spelled c rest splits (inl is) = p spelled c rest splits is
neither text p q spelled c rest splits (inr is) = q spelled c rest splits is

pub returns-in-None-clause-none : goal.returns-in-None-clause-none
returns-in-None-clause-none c = IfNone_then c.echar.result _ _ (neither c.args.text.now c.in-None.ensures.none) c.echar.ensures.none
