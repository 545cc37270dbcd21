-- A test that finds a number in a list.
use Rattle.std.proofs.Common.{◌≡◌, ℕ, Bool, true, false, IsTrue, List, nat_eq, refl, sym, eq-eqb, eqb-true, true≢false}
use Rattle.std.specs.List.{list_any}
use Rattle.rdf_terms.specs.Lists.{In}
use Rattle.rdf_terms.proofs.Membership.{TellsEqual, present, absent}

abbrev equals : ℕ → ℕ → Bool
equals x y = nat_eq y x

tells : TellsEqual equals
tells = record { same = λ x y e. sym (eqb-true y x e); itself = λ x. eq-eqb x x refl }

pub tells_In : (x : ℕ) (xs : List ℕ) (found : Bool) → found ≡ list_any (λ y. nat_eq y x) xs → (IsTrue found → In x xs) × (In x xs → IsTrue found)
tells_In x xs true e = (λ yes. present equals tells x xs (sym e), λ there. refl)
tells_In x xs false e = (λ yes. absurd (true≢false (sym yes)), λ there. absurd (absent equals tells x xs (sym e) there))
