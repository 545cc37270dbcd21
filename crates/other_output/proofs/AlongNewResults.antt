-- The run of a dataset that is numbered along a tie of two new results takes the right one first.
use Rattle.std.proofs.Common.{List, [], ap, append_assoc, arith, false, get_or, length, map, not, refl, subst, sym, true, ℕ, ◌++◌, ◌+◌, ◌<◌, ◌∙◌, ◌∷◌, ◌≡◌}
use Rattle.std.proofs.lemmas.Bool.{not_from_false}
use Rattle.std.proofs.lemmas.List.{get_or_append_left, get_or-map, length-append, length-map, map-append}
use Rattle.std.proofs.Math.Seq.{get_or-append_seam}
use Rattle.std.specs.Cmp.Lexicographic.{bytes_decides}
use Rattle.rdf_terms.proofs.Common.{from_In-map, In-get_or, Permutes-from_equal, Permutes-map, permutes_trans, Carries, Dataset, In, IsValid, Relabelling, Symmetry, Text, get_or-numbers_below, is_at_most, length-numbers_below, map-map, numbers_below, relabel_statement}
use Rattle.canonical_writer.specs.Determined.{CarriesLists}
use Rattle.canon_core.proofs.TwoOutputs.{shared_output}
use Rattle.canon_model.specs.Allowed.{HashPathResult, IsHashPathList, IssuesForHashes, canonical_form, first_degree_hashes, has_first_degree_hash, has_no_canonical, issue_results, issued_for_unique_hashes, unissued_nodes}
use Rattle.canon_model.specs.CountedRun.{Tie, counted_hashes, counted_results, counted_run, result_of, sort_results, trace_of_starts}
use Rattle.canon_model.specs.Coverage.{BeginsWith}
use Rattle.canon_model.specs.FirstDegree.{hash_first_degree_quads}
use Rattle.canon_model.specs.Hashing.{Hashing}
use Rattle.canon_model.specs.Issuer.{is_issued, issue_each}
use Rattle.canon_model.specs.Output.{chosen_form}
use Rattle.canon_model.specs.Ties.{AreJoined, IsJoined}
use Rattle.canon_model.proofs.CanonicalLists.{AreCanonical, issues_for_hashes-canonical, unique_hashes-canonical}
use Rattle.canon_model.proofs.CountedAllowed.{counted_hashes-issue, counted_results-list, counted_run_is_allowed}
use Rattle.canon_model.proofs.Equivariance.{back_relabelling, carries_back, map_back, same_test}
use Rattle.canon_model.proofs.ExchangeSymmetry.{AreAlike}
use Rattle.canon_model.proofs.IssueEach.{issue_each-new}
use Rattle.canon_model.proofs.Issuers.{is_issued-from_In}
use Rattle.canon_model.proofs.LocalSymmetry.{AreQuads, are_quads}
use Rattle.canon_model.proofs.Maps.{map_agree}
use Rattle.canon_model.proofs.OneOutput.{base_canonical}
use Rattle.canon_model.proofs.Relabel.{is_issued-relabel}
use Rattle.canon_model.proofs.RelabelRun.{canonical_form-relabel, canonical_list-relabel, hash_path_list-relabel, issue_results-relabel, issues_for_hashes-relabel, relabel_result}
use Rattle.canon_model.proofs.StartNodes.{unissued_node}
use Rattle.canon_model.proofs.Symmetries.{relabel_statement-two}
use Rattle.canon_model.proofs.Totality.{mentions_nodes}
use Rattle.canon_model.proofs.Uniqueness.{joined_left, joined_right}
use Rattle.other_output.specs.Along.{IsNumberedAlong, nodes_along}
use Rattle.other_output.specs.NewResults.{IsFirstOfNewResults, OtherFormAlongNewResults}
use Rattle.other_output.proofs.EarlierClasses.{counted_hashes-alike}
use Rattle.other_output.proofs.FirstStart.{filter_two-first, put}
use Rattle.other_output.proofs.IssuedFronts.{counted_hashes-append, counted_hashes-begins, issue_each-begins}
use Rattle.other_output.proofs.NumberedClasses.{IsValid-relabelled, first_degree_hashes-relabel, issued_for_unique_hashes-relabel, same_hash}
use Rattle.other_output.proofs.OtherResultFirst.{canonical, left_joined, right_component, right_begins, right_start}

-- what a run issues by way of one class stands in front of its list
class_begins : (ρ : Hashing) (X : Dataset) (before behind : List Text) (class : Text) → first_degree_hashes ρ X ≡ before ++ class ∷ behind → (c : List ℕ)
    → c ≡ (counted_hashes ρ X before (issued_for_unique_hashes ρ X)).value → BeginsWith (issue_results c (counted_results ρ X c class)) (counted_run ρ X).value
class_begins ρ X before behind class e c is =
    subst (BeginsWith (issue_results c (counted_results ρ X c class)))
    (ap (λ d. (counted_hashes ρ X (class ∷ behind) d).value) is ∙ sym (counted_hashes-append ρ X before (class ∷ behind) (issued_for_unique_hashes ρ X))
    ∙ ap (λ hs. (counted_hashes ρ X hs (issued_for_unique_hashes ρ X)).value) (sym e))
    (counted_hashes-begins ρ X behind (issue_results c (counted_results ρ X c class)))

-- ---- numbers along two lists

module _ (D E : Dataset) (c rest : List ℕ) (x : ℕ) (o : List ℕ) (o_is : o ≡ c ++ x ∷ rest) (along : CarriesLists D E o (numbers_below D.nodes)) where
  as_long : length o ≡ D.nodes
  as_long = sym (length-map o along.relabelling.to) ∙ ap length along.lists ∙ length-numbers_below D.nodes

  pub within : length c < D.nodes
  within =
      let a : length o ≡ length c + length (x ∷ rest) = ap length o_is ∙ length-append c (x ∷ rest) in
      omega (arith, a, as_long)

  -- the number of a node is its place
  number_of : (i : ℕ) → i < D.nodes → along.relabelling.to (get_or o i 0) ≡ i
  number_of i h =
      let l : i < length o = subst (λ n. i < n) (sym as_long) h in
      sym (get_or-map along.relabelling.to o i 0 0 l) ∙ ap (λ xs. get_or xs i 0) along.lists ∙ get_or-numbers_below D.nodes i h

  pub number_behind : along.relabelling.to x ≡ length c
  number_behind = ap along.relabelling.to (sym (ap (λ xs. get_or xs (length c) 0) o_is ∙ get_or-append_seam c x rest 0)) ∙ number_of (length c) within

  pub number_before : (j : ℕ) → j < length c → is_issued (along.relabelling.from j) c ≡ true
  number_before j h =
      let l : j < D.nodes = omega (arith, h, within) in
      let there : In (get_or o j 0) c = subst (λ y. In y c) (sym (ap (λ xs. get_or xs j 0) o_is ∙ get_or_append_left c (x ∷ rest) 0 j h)) (In-get_or c j 0 h) in
      let is : get_or o j 0 ≡ along.relabelling.from j = sym (along.relabelling.from-to (get_or o j 0)) ∙ ap along.relabelling.from (number_of j l) in
      is_issued-from_In (along.relabelling.from j) c (subst (λ y. In y c) is there)

-- ---- the run under these numbers

module _ (ρ : Hashing) (D : Dataset) (valid : IsValid D) (t : Tie) (n : IsFirstOfNewResults ρ D t) (E : Dataset) (along : IsNumberedAlong D t E) where
  abbrev c : List ℕ
  c = t.canonical

  abbrev before : List Text
  before = n.new.before

  abbrev class : Text
  class = n.new.class

  abbrev quads : AreQuads D
  quads = are_quads D valid

  abbrev σ : Relabelling D.nodes
  σ = along.relabelling

  c_canonical : AreCanonical D c
  c_canonical = canonical ρ D valid c n.left n.right n.new

  valid_E : IsValid E
  valid_E = IsValid-relabelled D E σ along.carries valid

  -- the order begins with the canonical list and the start node of the right result
  abbrev rest : List ℕ
  rest = (right_begins ρ D valid c n.left n.right n.new).tail ++ (issue_each-begins (c ++ n.right.issuer) (numbers_below D.nodes)).tail

  order_is : nodes_along D.nodes c t.right ≡ c ++ n.right.start ∷ rest
  order_is =
      let right = right_component ρ D valid c n.left n.right n.new in
      let tail = issue_each-begins (c ++ n.right.issuer) (numbers_below D.nodes) in
      let first : issue_each [] c ≡ c = issue_each-new [] c c_canonical.once (λ x h. refl) in
      (λ i. issue_each (issue_each (first i) (n.right_is i)) (numbers_below D.nodes))
      ∙ ap (λ d. issue_each d (numbers_below D.nodes)) (issue_each-new c n.right.issuer right.distinct right.free)
      ∙ tail.is ∙ append_assoc c n.right.issuer tail.tail ∙ ap (λ m. c ++ (m ++ tail.tail)) (right_begins ρ D valid c n.left n.right n.new).is

  abbrev place : ℕ
  place = length c

  place_low : length t.canonical < D.nodes
  place_low = within D E c rest n.right.start (nodes_along D.nodes c t.right) order_is along

  right_place : along.relabelling.to n.right.start ≡ length t.canonical
  right_place = number_behind D E c rest n.right.start (nodes_along D.nodes c t.right) order_is along

  before_place : (j : ℕ) → j < length t.canonical → is_issued (along.relabelling.from j) t.canonical ≡ true
  before_place = number_before D E c rest n.right.start (nodes_along D.nodes c t.right) order_is along

  -- ---- the classes before

  joined_before : AreJoined D (((counted_hashes ρ D before (issued_for_unique_hashes ρ D)).trace.ties ++ (trace_of_starts ρ D c (unissued_nodes ρ D c class)).ties) ++ n.of_results)
  joined_before = subst (AreJoined D) n.before_are n.unjoined.joined_before

  earlier : AreJoined D (counted_hashes ρ D n.new.before (issued_for_unique_hashes ρ D)).trace.ties
  earlier = joined_left D _ (trace_of_starts ρ D c (unissued_nodes ρ D c class)).ties (joined_left D _ n.of_results joined_before)

  calls : AreJoined D (trace_of_starts ρ D t.canonical (unissued_nodes ρ D t.canonical n.new.class)).ties
  calls = joined_right D (counted_hashes ρ D before (issued_for_unique_hashes ρ D)).trace.ties _ (joined_left D _ n.of_results joined_before)

  -- the canonical list of the other run, and as nodes of D
  abbrev c_E : List ℕ
  c_E = (counted_hashes ρ E before (issued_for_unique_hashes ρ E)).value

  abbrev d : List ℕ
  d = map along.relabelling.from c_E

  issue_E : IssuesForHashes ρ E n.new.before (issued_for_unique_hashes ρ E) c_E
  issue_E = counted_hashes-issue ρ E valid_E before (issued_for_unique_hashes ρ E) (unique_hashes-canonical ρ E)

  canonical_E : AreCanonical E c_E
  canonical_E = issues_for_hashes-canonical ρ E (mentions_nodes E valid_E) before (issued_for_unique_hashes ρ E) c_E issue_E (unique_hashes-canonical ρ E)

  unique_back : map along.relabelling.from (issued_for_unique_hashes ρ E) ≡ issued_for_unique_hashes ρ D
  unique_back = ap (map σ.from) (issued_for_unique_hashes-relabel ρ D E σ along.carries)
      ∙ map_back σ.to σ.from (same_test σ.to σ.from σ.from-to) σ.from-to σ.to-from (issued_for_unique_hashes ρ D)

  issue_D : IssuesForHashes ρ D n.new.before (issued_for_unique_hashes ρ D) d
  issue_D = subst (λ u. IssuesForHashes ρ D before u d) unique_back
      (issues_for_hashes-relabel ρ E D (back_relabelling D E σ along.carries.nodes) (carries_back σ.to σ.from σ.from-to D E along.carries) before (issued_for_unique_hashes ρ E) c_E issue_E)

  alike : AreAlike D quads (issued_for_unique_hashes ρ D) (issued_for_unique_hashes ρ D) t.canonical d
  alike = subst (λ w. AreAlike D quads (issued_for_unique_hashes ρ D) (issued_for_unique_hashes ρ D) w d) (sym n.new.canonical_is)
      (counted_hashes-alike ρ D valid quads before (issued_for_unique_hashes ρ D) d (base_canonical ρ D valid quads (issued_for_unique_hashes ρ D) (unique_hashes-canonical ρ D)) earlier issue_D)

  abbrev s : Symmetry D
  s = alike.s

  -- ---- back from E, and by the symmetry

  abbrev onward : Relabelling D.nodes
  onward = record {
    to = λ x. σ.to (s.relabelling.to x);
    from = λ x. s.relabelling.from (σ.from x);
    from-to = λ x. ap s.relabelling.from (σ.from-to (s.relabelling.to x)) ∙ s.relabelling.from-to x;
    to-from = λ x. ap σ.to (s.relabelling.to-from (σ.from x)) ∙ σ.to-from x;
    to_node = λ x h. σ.to_node (s.relabelling.to x) (s.relabelling.to_node x h);
    from_node = λ x h. s.relabelling.from_node (σ.from x) (σ.from_node x h);
  }

  onward_carries : Carries onward.to D E
  onward_carries = record {
    nodes = along.carries.nodes;
    statements =
        permutes_trans (Permutes-from_equal (map_agree _ _ (relabel_statement-two σ.to s.relabelling.to) D.statements
        ∙ sym (map-map (relabel_statement σ.to) (relabel_statement s.relabelling.to) D.statements)))
        (permutes_trans (Permutes-map (relabel_statement σ.to) s.keeps.statements) along.carries.statements);
  }

  abbrev κ : Relabelling E.nodes
  κ = back_relabelling D E onward along.carries.nodes

  κ_carries : Carries κ.to E D
  κ_carries = carries_back onward.to onward.from onward.from-to D E onward_carries

  c_back : map κ.to c_E ≡ t.canonical
  c_back = sym (map-map s.relabelling.from σ.from c_E) ∙ ap (map s.relabelling.from) (sym alike.is)
      ∙ map_back s.relabelling.to s.relabelling.from (same_test s.relabelling.to s.relabelling.from s.relabelling.from-to) s.relabelling.from-to s.relabelling.to-from c

  -- ---- the start nodes in E

  -- a node has a canonical identifier there where it has one here
  issued_E : (j : ℕ) → is_issued j c_E ≡ is_issued (along.relabelling.from j) t.canonical
  issued_E j = sym (is_issued-relabel σ.from (same_test σ.from σ.to σ.to-from) j c_E) ∙ sym (alike.same (σ.from j))

  place_is : along.relabelling.from (length t.canonical) ≡ n.right.start
  place_is = ap σ.from (sym right_place) ∙ σ.from-to n.right.start

  right_node : (n.right.start < D.nodes) × (is_issued n.right.start t.canonical ≡ false) × (hash_first_degree_quads ρ D n.right.start ≡ n.new.class)
  right_node = unissued_node ρ D c class n.right.start (right_start ρ D valid c n.left n.right n.new).0

  starts_E : (others : List ℕ) × (unissued_nodes ρ E c_E n.new.class ≡ length t.canonical ∷ others)
  starts_E = filter_two-first (has_first_degree_hash ρ E class) (has_no_canonical c_E) E.nodes place (subst (λ m. place < m) (sym along.carries.nodes) place_low)
      ((bytes_decides (hash_first_degree_quads ρ E place) class).1 (ap (hash_first_degree_quads ρ E) (sym right_place) ∙ same_hash ρ D E σ along.carries n.right.start ∙ right_node.2))
      (not_from_false (is_issued place c_E) (issued_E place ∙ ap (λ x. is_issued x c) place_is ∙ right_node.1))
      (λ j h. ap not (issued_E j ∙ before_place j h))

  -- ---- its results, and as results of D

  abbrev r_E : HashPathResult
  r_E = result_of ρ E c_E place

  abbrev results_E : List HashPathResult
  results_E = counted_results ρ E c_E class

  abbrev others_E : List HashPathResult
  others_E = sort_results (map (result_of ρ E c_E) starts_E.0)

  results_are : counted_results ρ E c_E n.new.class ≡ (put r_E others_E).lesser ++ r_E ∷ (put r_E others_E).others
  results_are = ap (λ xs. sort_results (map (result_of ρ E c_E) xs)) starts_E.1 ∙ (put r_E others_E).is

  abbrev moved : HashPathResult → HashPathResult
  moved = relabel_result ρ E D κ κ_carries

  abbrev first : List HashPathResult
  first = map moved (put r_E others_E).lesser

  abbrev others : List HashPathResult
  others = map moved (put r_E others_E).others

  moved_are : map moved (counted_results ρ E c_E n.new.class) ≡ first ++ moved r_E ∷ others
  moved_are = ap (map moved) results_are ∙ map-append moved (put r_E others_E).lesser (r_E ∷ (put r_E others_E).others)

  list : IsHashPathList ρ D t.canonical n.new.class (first ++ moved r_E ∷ others)
  list = subst (IsHashPathList ρ D c class) moved_are (subst (λ w. IsHashPathList ρ D w class (map moved results_E)) c_back
      (hash_path_list-relabel ρ E D κ κ_carries c_E class results_E (counted_results-list ρ E valid_E c_E canonical_E class)))

  start : (moved r_E).start ≡ n.right.start
  start = ap s.relabelling.from (place_is ∙ sym (alike.out n.right.start right_node.1)) ∙ s.relabelling.from-to n.right.start

  are_lesser : (q : HashPathResult) → In q first → is_at_most (moved r_E).hash q.hash ≡ false
  are_lesser q i =
      let g = from_In-map moved (put r_E others_E).lesser q i in
      subst (λ (v : HashPathResult). is_at_most r_E.hash v.hash ≡ false) (sym g.2) ((put r_E others_E).are_lesser g.0 g.1)

  -- ---- the two lists

  abbrev order : List ℕ
  order = map κ.to (counted_run ρ E).value

  run_begins : BeginsWith (issue_results t.canonical (counted_results ρ D t.canonical n.new.class)) (counted_run ρ D).value
  run_begins = class_begins ρ D before n.new.behind class n.new.hashes_are c n.new.canonical_is

  order_begins : BeginsWith (issue_results t.canonical (first ++ moved r_E ∷ others)) order
  order_begins =
      let b = class_begins ρ E before n.new.behind class (first_degree_hashes-relabel ρ D E σ along.carries ∙ n.new.hashes_are) c_E refl in
      let front : map κ.to (issue_results c_E results_E) ≡ issue_results c (first ++ moved r_E ∷ others) = issue_results-relabel ρ E D κ κ_carries c_E results_E
      ∙ (λ i. issue_results (c_back i) (moved_are i)) in
      record {
        tail = map κ.to b.tail;
        is = ap (map κ.to) b.is ∙ map-append κ.to (issue_results c_E results_E) b.tail ∙ ap (λ w. w ++ map κ.to b.tail) front;
      }

  pub forms_differ : ¬ (chosen_form ρ D ≡ chosen_form ρ E)
  forms_differ e =
      let same : canonical_form D (counted_run ρ D).value ≡ canonical_form D order = e ∙ sym (canonical_form-relabel ρ E D κ κ_carries (counted_run ρ E).value) in
      let l = shared_output ρ ρ D D valid valid (counted_run ρ D).value order (counted_run_is_allowed ρ D valid)
      (canonical_list-relabel ρ E D κ κ_carries (counted_run ρ E).value (counted_run_is_allowed ρ E valid_E)) same in
      let joined = left_joined ρ D valid c n.left n.right n.new n.left_first calls first (moved r_E) others list start are_lesser (counted_run ρ D).value order run_begins order_begins
      (record { relabelling = l.relabelling; keeps = l.carries }) (sym l.lists) in
      n.unjoined.not_joined (subst (λ l. IsJoined D c l t.right) (sym n.left_is) (subst (λ m. IsJoined D c n.left.issuer m) (sym n.right_is) joined))

pub other_form_along_new_results : OtherFormAlongNewResults
other_form_along_new_results ρ D valid t n text f e = forms_differ ρ D valid t n f.numbered f.along (e ∙ f.chosen)
