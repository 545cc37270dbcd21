-- The labels that are read of a written text are the names of the nodes, each once, and so number the nodes.
use Rattle.std.proofs.Common.{◌≡◌, ℕ, ◌<◌, List, [], ◌∷◌, inl, inr, Some, All, map, length, slice_get, refl, sym, ap, subst, ◌∙◌, arith}
use Rattle.std.specs.List.{flat_map}
use Rattle.std.proofs.lemmas.List.{get_or-map, length-map}
use Rattle.std.proofs.lemmas.Option.{slice_get-get_or}
use Rattle.rdf_terms.proofs.Common.{In, AreDistinct, numbers_below, Statement, IsValidStatement, AddsAll, IsUsed, Relabelling, Naming, In-map, from_In-map, from_In-numbers_below, AreDistinct-numbers_below, get_or-numbers_below, In-numbers_below, each-from_All, In-flat_map, from_In-flat_map, AreDistinct-AddsAll, from_In-AddsAll, In-AddsAll}
use Rattle.rdf_terms.specs.declared.term.Label.{Label}
use Rattle.canonical_writer.specs.Determined.{ListsNodes}
use Rattle.canonical_writer.proofs.Partners.{partner, partner-at, partners, length-listed}
use Rattle.canonical_writer.proofs.Placing.{place-found, place-here}
use Rattle.nquads_reader.specs.Document.{mentioned}
use Rattle.nquads_reader.proofs.WrittenQuads.{written_quad}
use Rattle.nquads_reader.proofs.WrittenLabels.{name_label, IsName, quad_name, quad_label}

-- each node goes to the number of the label that is its name
pub record NumbersNodes (ν : Naming) (nodes : ℕ) (labels : List Label) : Type 0 where
  pub relabelling : Relabelling nodes
  pub as_many : length labels ≡ nodes
  pub label : (n : ℕ) → n < nodes → slice_get labels (relabelling.to n) ≡ Some (name_label ν n)

module _ (ν : Naming) (nodes : ℕ) (sts : List Statement) (labels : List Label) (valid : All (IsValidStatement nodes) sts) (used : (n : ℕ) → n < nodes → IsUsed sts n)
    (own : (m n : ℕ) → m < nodes → n < nodes → ν m ≡ ν n → m ≡ n) (read : AddsAll [] (flat_map mentioned (map (written_quad ν) sts)) labels) where
  distinct : AreDistinct labels
  distinct = AreDistinct-AddsAll [] (flat_map mentioned (map (written_quad ν) sts)) labels read tt

  each_named : (l : Label) → In l labels → IsName ν nodes l
  each_named l there =
      elim (from_In-AddsAll [] (flat_map mentioned (map (written_quad ν) sts)) labels l read there) as (λ _. IsName ν nodes l) [
        | inl none ↦ absurd none
        | inr i ↦
            let q = from_In-flat_map mentioned l (map (written_quad ν) sts) i in
            let st = from_In-map (written_quad ν) sts q.0 q.1 in
            quad_name ν nodes l st.0 (each-from_All (IsValidStatement nodes) sts st.0 valid st.1) (subst (λ x. In l (mentioned x)) st.2 q.2)
      ]

  name_there : (n : ℕ) → n < nodes → In (name_label ν n) labels
  name_there n h =
      let u = used n h in
      In-AddsAll [] (flat_map mentioned (map (written_quad ν) sts)) labels (name_label ν n) read
      (In-flat_map mentioned (written_quad ν u.statement) (name_label ν n) (map (written_quad ν) sts) (In-map (written_quad ν) sts u.statement u.there) (quad_label ν n u.statement u.mentioned))

  -- the nodes that the labels are the names of
  record Nodes (ls : List Label) : Type 0 where
    list : List ℕ
    names : ls ≡ map (name_label ν) list
    below : (n : ℕ) → In n list → n < nodes

  nodes_of : (ls : List Label) → ((l : Label) → In l ls → IsName ν nodes l) → Nodes ls
  nodes_of [] name = record { list = []; names = refl; below = λ n h. absurd h }
  nodes_of (l ∷ ls) name =
      let first = name l (inl refl) in
      let more = nodes_of ls (λ k i. name k (inr i)) in
      record {
        list = first.0 ∷ more.list;
        names = λ i. first.2 i ∷ more.names i;
        below = λ n h. elim h as (λ _. n < nodes) [ inl e ↦ subst (λ m. m < nodes) (sym e) first.1 | inr i ↦ more.below n i ];
      }

  by_label : Nodes labels
  by_label = nodes_of labels each_named

  unrepeated : (list : List ℕ) → AreDistinct (map (name_label ν) list) → AreDistinct list
  unrepeated [] d = tt
  unrepeated (n ∷ ns) d = (λ there. d.0 (In-map (name_label ν) ns n there), unrepeated ns d.1)

  one_label : (m n : ℕ) → name_label ν m ≡ name_label ν n → ν m ≡ ν n
  one_label m n e = cc

  listed : ListsNodes nodes by_label.list
  listed = record {
    distinct = unrepeated by_label.list (subst AreDistinct by_label.names distinct);
    all = λ n. (by_label.below n, there n);
  }
    where
      there : (n : ℕ) → n < nodes → In n by_label.list
      there n h =
          let m = from_In-map (name_label ν) by_label.list (name_label ν n) (subst (In (name_label ν n)) by_label.names (name_there n h)) in
          subst (λ k. In k by_label.list) (own m.0 n (by_label.below m.0 m.1) h (one_label m.0 n (sym m.2))) m.1

  counted : ListsNodes nodes (numbers_below nodes)
  counted = record {
    distinct = AreDistinct-numbers_below nodes;
    all = λ n. (from_In-numbers_below nodes n, In-numbers_below nodes n);
  }

  as_many : length by_label.list ≡ nodes
  as_many = length-listed nodes by_label.list listed

  abbrev places : Relabelling nodes
  places = partners nodes by_label.list (numbers_below nodes) listed counted

  label_is : (n : ℕ) → n < nodes → slice_get labels (places.to n) ≡ Some (name_label ν n)
  label_is n h =
      let p = place-here by_label.list n ((listed.all n).1 h) in
      let q = place-found by_label.list n p.0 p.1 in
      let low : p.0 < nodes = omega (arith, q.0, as_many) in
      let to : partner by_label.list (numbers_below nodes) n ≡ p.0 = partner-at nodes by_label.list (numbers_below nodes) listed counted n p.0 p.1 q.0 ∙ get_or-numbers_below nodes p.0 low in
      let within : p.0 < length (map (name_label ν) by_label.list) = omega (arith, q.0, length-map by_label.list (name_label ν)) in
      let got : slice_get (map (name_label ν) by_label.list) p.0 ≡ Some (name_label ν n) =
      slice_get-get_or (map (name_label ν) by_label.list) p.0 (name_label ν n) within ∙ ap Some (get_or-map (name_label ν) by_label.list p.0 0 (name_label ν n) q.0 ∙ ap (name_label ν) q.1) in
      (λ i. slice_get (by_label.names i) (to i)) ∙ got

  pub numbering : NumbersNodes ν nodes labels
  numbering = record { relabelling = places; as_many = ap length by_label.names ∙ length-map by_label.list (name_label ν) ∙ as_many; label = label_is }
