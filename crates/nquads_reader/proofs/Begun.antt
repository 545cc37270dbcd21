-- Lines of which the first was begun by the bytes before.
use Rattle.std.proofs.Common.{◌≡◌, ℕ, ◌+◌, ◌<◌, ◌≤◌, ◌∷◌, ◌++◌, All, false, length, sym, subst, arith}
use Rattle.rdf_terms.proofs.Common.{Text, Document}
use Rattle.nquads_reader.specs.Lines.{lines_of}
use Rattle.nquads_reader.specs.Pieces.{is_line_end}
use Rattle.nquads_reader.specs.Feeding.{TakesLines, StopsAt, HasRoom}
use Rattle.nquads_reader.specs.declared.fault.LineFault.{LineFault}
use Rattle.nquads_reader.proofs.Cuts.{lines_begun}
use Rattle.nquads_reader.proofs.ReadLines.{takes_append, stops_behind, stops_before}

pub room_less : (limit : ℕ) (d : Document) (n p q : ℕ) → q ≤ p → HasRoom limit d n p → HasRoom limit d n q
room_less limit d n p q less h = record { quads = omega (arith, h.quads); labels = omega (arith, h.labels); lines = omega (arith, h.lines) }

pub room_more : (limit : ℕ) (d : Document) (n p more : ℕ) → HasRoom limit d n p → HasRoom (limit + more) d n (p + more)
room_more limit d n p more h = record { quads = omega (arith, h.quads); labels = omega (arith, h.labels); lines = omega (arith, h.lines) }

module _ (tail bytes line rest : Text) (next : lines_of bytes ≡ line ∷ lines_of rest) (some : 0 < length tail) (inside : All (λ c. is_line_end c ≡ false) tail) where
  whole : lines_of (tail ++ bytes) ≡ lines_of (tail ++ line) ++ lines_of rest
  whole = lines_begun tail bytes line rest some inside next

  pub begun_taken : (a b c : Document) (m n p : ℕ) → TakesLines (lines_of (tail ++ line)) a b m n → TakesLines (lines_of rest) b c n p → TakesLines (lines_of (tail ++ bytes)) a c m p
  begun_taken a b c m n p h k = subst (λ ls. TakesLines ls a c m p) (sym whole) (takes_append (lines_of (tail ++ line)) (lines_of rest) a b c m n p h k)

  pub begun_stops : (fault : LineFault) (a c : Document) (m p : ℕ) → StopsAt (lines_of (tail ++ line)) fault a c m p → StopsAt (lines_of (tail ++ bytes)) fault a c m p
  begun_stops fault a c m p k = subst (λ ls. StopsAt ls fault a c m p) (sym whole) (stops_before (lines_of (tail ++ line)) (lines_of rest) fault a c m p k)

  pub begun_stops_behind : (fault : LineFault) (a b c : Document) (m n p : ℕ) → TakesLines (lines_of (tail ++ line)) a b m n → StopsAt (lines_of rest) fault b c n p
      → StopsAt (lines_of (tail ++ bytes)) fault a c m p
  begun_stops_behind fault a b c m n p h k = subst (λ ls. StopsAt ls fault a c m p) (sym whole) (stops_behind (lines_of (tail ++ line)) (lines_of rest) a b c m n p h fault k)
