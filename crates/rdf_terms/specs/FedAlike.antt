-- What is equal feeds a hasher alike, so that the one is found under the other. These lemmas stand here because the
-- `impl`s cite them.
use Rattle.std.specs.Prelude.{◌≡◌, ℕ, true, ◌&&◌, Option, Some, None, IsTrue}
use Rattle.std.proofs.Common.{refl, sym, ap, true≢false, eqb}
use Rattle.std.specs.Option.{option_eq}
use Rattle.std.proofs.lemmas.Bool.{and_parts, eqb-true}
use Rattle.std.specs.Hash.{u64}
use Rattle.rdf_terms.specs.HashedTerm.{hashed_of}
use Rattle.rdf_terms.specs.QuadHash.{fed_quad}
use Rattle.rdf_terms.specs.References.{label_of}
use Rattle.rdf_terms.specs.declared.term.Quad.{Quad}
use Rattle.rdf_terms.specs.declared.term_ref.LabelRef.{LabelRef}
use Rattle.rdf_terms.specs.declared.term_ref.LabelRef.TheVariants.{Named, Anonymous}
use Rattle.rdf_terms.specs.declared.hashed_term.HashedTerm.{HashedTerm}
use Rattle.rdf_terms.specs.declared.hashed_term.HashedTermRef.{HashedTermRef}
use Rattle.rdf_terms.specs.contracts.hashed_term.HashedTermPartialEq.TheImpl.{eq-value as eq-hashed}
use Rattle.rdf_terms.specs.contracts.hashed_term.HashedTermRefPartialEq.TheImpl.{eq-value as eq-hashed_ref}
use Rattle.rdf_terms.specs.contracts.term.QuadPartialEq.TheImpl.{eq-value as eq-quad}
use Rattle.rdf_terms.specs.contracts.term.LabelHash.TheImpl.{hash_input-value as hash-label}
use Rattle.rdf_terms.specs.contracts.term_ref.LabelRefHash.TheImpl.{hash_input-value as hash-label_ref}

pub entries_fed_alike : (a b : HashedTerm) → IsTrue (eq-hashed.it a b) → u64 a.hash ≡ u64 b.hash
entries_fed_alike a b h = ap u64 (eqb-true a.hash b.hash (and_parts _ _ h).0)

pub references_fed_alike : (a b : HashedTermRef) → IsTrue (eq-hashed_ref.it a b) → u64 a.hash ≡ u64 b.hash
references_fed_alike a b h = ap u64 (eqb-true a.hash b.hash (and_parts _ _ h).0)

pub fed_as_entry : (q : HashedTermRef) (k : HashedTerm) → IsTrue (eq-hashed.it (hashed_of q) k)
    → u64 q.hash ≡ u64 k.hash
fed_as_entry q k h = entries_fed_alike (hashed_of q) k h

same_graph : (a b : Option ℕ) → option_eq eqb a b ≡ true → a ≡ b
same_graph None None h = refl
same_graph None (Some n) h = absurd (true≢false (sym h))
same_graph (Some m) None h = absurd (true≢false (sym h))
same_graph (Some m) (Some n) h = ap Some (eqb-true m n h)

pub same_quad : (a b : Quad) → eq-quad.it a b ≡ true → a ≡ b
same_quad a b h =
    let p = and_parts (eqb a.s b.s) (eqb a.p b.p && (eqb a.o b.o && option_eq eqb a.g b.g)) h in
    let q = and_parts (eqb a.p b.p) (eqb a.o b.o && option_eq eqb a.g b.g) p.1 in
    let r = and_parts (eqb a.o b.o) (option_eq eqb a.g b.g) q.1 in
    let s : a.s ≡ b.s = eqb-true a.s b.s p.0 in
    let p' : a.p ≡ b.p = eqb-true a.p b.p q.0 in
    let o : a.o ≡ b.o = eqb-true a.o b.o r.0 in
    let g : a.g ≡ b.g = same_graph a.g b.g r.1 in
    λ i. record { s = s i; p = p' i; o = o i; g = g i }

pub quads_fed_alike : (a b : Quad) → IsTrue (eq-quad.it a b) → fed_quad a ≡ fed_quad b
quads_fed_alike a b h = ap fed_quad (same_quad a b h)

pub hash-label_of : (l : LabelRef) → hash-label_ref.it l ≡ hash-label.it (label_of l)
hash-label_of (Named name) = refl
hash-label_of (Anonymous n) = refl
