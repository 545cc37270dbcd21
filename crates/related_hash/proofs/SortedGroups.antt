-- The groups of entries in the order of their hashes are those of the call.
use Rattle.std.proofs.Common.{Bool, List, [], ap, cond, false, filter, inl, inr, map, refl, subst, sym, true, ℕ, ◌<◌, ◌++◌, ◌∙◌, ◌∷◌, ◌≡◌, ◌⊎◌}
use Rattle.std.proofs.lemmas.Bool.{cases_Bool}
use Rattle.std.proofs.lemmas.Slice.Eq.{bytes_eq-Decides}
use Rattle.std.specs.Str.{bytes_eq}
use Rattle.rdf_terms.proofs.Common.{In, Permutes, Text, permutes_cons, permutes_trans, sorted, In-Permutes, Permutes-append_comm, Permutes-filter, Permutes-from_equal, Permutes-map, Permutes-sym, Ascends as TextsAscend, Ascends-sorted, Dataset, IsValid}
use Rattle.canon_model.proofs.Totality.{mentions_nodes, nodes_of_groups}
use Rattle.canon_model.specs.Hashing.{Hashing}
use Rattle.canon_model.specs.Groups.{RelatedEntry, as_read, blank_node_list, each_text_once, groups as groups_of_call, hash_of_entry, is_under, node_of_entry, related_hashes}
use Rattle.related_hash.specs.declared.group.Group.{Group}
use Rattle.related_hash.specs.Grouping.{AllAscend, AreGroups, Ascends, StandFor}
use Rattle.related_hash.specs.Gathering.{AllArranged, IsArranged, groups_of, with_entry}
use Rattle.canon_model.proofs.TextsOnce.{not_again}
use Rattle.canon_model.proofs.Neighbours.{from_In-each_text_once}
use Rattle.canon_model.proofs.RelabelGroups.{as_read-perm}

-- ---- texts that ascend

-- such a list with each text once begins with its first, which does not come again
record Shape (x : Text) (xs : List Text) : Type 0 where
  tail : List Text
  is : xs ≡ x ∷ tail
  apart : (z : Text) → In z tail → ¬ (z ≡ x)

shape : (x : Text) (xs : List Text) → TextsAscend (x ∷ xs) → Shape x (each_text_once (x ∷ xs))
shape x [] a = record { tail = []; is = refl; apart = λ z h. absurd h }
shape x (y ∷ ys) a = by (bytes_eq x y) refl (shape y ys a.1)
  where
    by : (b : Bool) → bytes_eq x y ≡ b → Shape y (each_text_once (y ∷ ys)) → Shape x (cond b (each_text_once (y ∷ ys)) (x ∷ each_text_once (y ∷ ys)))
    by true e s = subst (λ w. Shape w (each_text_once (y ∷ ys))) (sym ((bytes_eq-Decides x y).0 e)) s
    by false e s = record { tail = each_text_once (y ∷ ys); is = refl; apart = λ z h d. not_again x y ys a e (subst (λ w. In w (y ∷ ys)) d (from_In-each_text_once z (y ∷ ys) h)) }

-- ---- the nodes under a hash

abbrev pub nodes_under : List RelatedEntry → Text → List ℕ
nodes_under entries hash = map node_of_entry (filter (is_under hash) entries)

under-here : (e : RelatedEntry) (entries : List RelatedEntry) (z : Text) → e.hash ≡ z → nodes_under (e ∷ entries) z ≡ e.node ∷ nodes_under entries z
under-here e entries z h = ap (λ (b : Bool). map node_of_entry (cond b (e ∷ filter (is_under z) entries) (filter (is_under z) entries))) ((bytes_eq-Decides e.hash z).1 h)

under-other : (e : RelatedEntry) (entries : List RelatedEntry) (z : Text) → ¬ (z ≡ e.hash) → nodes_under (e ∷ entries) z ≡ nodes_under entries z
under-other e entries z h = by (cases_Bool (bytes_eq e.hash z))
  where
    by : (bytes_eq e.hash z ≡ true) ⊎ (bytes_eq e.hash z ≡ false) → nodes_under (e ∷ entries) z ≡ nodes_under entries z
    by (inl t) = absurd (h (sym ((bytes_eq-Decides e.hash z).0 t)))
    by (inr f) = ap (λ (b : Bool). map node_of_entry (cond b (e ∷ filter (is_under z) entries) (filter (is_under z) entries))) f

under-none : (entries : List RelatedEntry) (z : Text) → ¬ (In z (map hash_of_entry entries)) → nodes_under entries z ≡ []
under-none [] z h = refl
under-none (e ∷ entries) z h = under-other e entries z (λ d. h (inl d)) ∙ under-none entries z (λ m. h (inr m))

-- ---- one more entry

are_groups-same : (M N : Text → List ℕ) (hashes : List Text) (groups : List Group) → ((z : Text) → In z hashes → Permutes (M z) (N z)) → AreGroups N hashes groups → AreGroups M hashes groups
are_groups-same M N [] [] same a = a
are_groups-same M N [] (g ∷ groups) same a = a
are_groups-same M N (h ∷ hashes) [] same a = a
are_groups-same M N (h ∷ hashes) (g ∷ groups) same a = (a.0, permutes_trans (same h (inl refl)) a.1, are_groups-same M N hashes groups (λ z m. same z (inr m)) a.2)

step-same : (e : RelatedEntry) (N M : Text → List ℕ) (x : Text) (tail : List Text) (groups : List Group) → x ≡ e.hash → AreGroups N (x ∷ tail) groups → M x ≡ e.node ∷ N x
    → ((z : Text) → In z tail → M z ≡ N z)
    → AreGroups M (x ∷ tail) (with_entry e groups)
step-same e N M x tail [] is a here other = absurd a
step-same e N M x tail (g ∷ groups) is a here other =
    subst (λ (v : Bool). AreGroups M (x ∷ tail) (cond v (record { hash = g.hash; nodes = g.nodes ++ e.node ∷ [] } ∷ groups) (record { hash = e.hash; nodes = e.node ∷ [] } ∷ g ∷ groups)))
    (sym ((bytes_eq-Decides g.hash e.hash).1 (a.0 ∙ is))) (
      a.0,
      permutes_trans (Permutes-from_equal here) (permutes_trans (permutes_cons a.1) (Permutes-append_comm (e.node ∷ []) g.nodes)),
      are_groups-same M N tail groups
          (λ z m. Permutes-from_equal (other z m)) a.2,
    )

step-new : (e : RelatedEntry) (N M : Text → List ℕ) (hashes : List Text) (groups : List Group) → AreGroups N hashes groups → M e.hash ≡ e.node ∷ [] → ((z : Text) → In z hashes → M z ≡ N z)
    → ((z : Text) → In z hashes → ¬ (z ≡ e.hash))
    → AreGroups M (e.hash ∷ hashes) (with_entry e groups)
step-new e N M [] [] a here other apart = (refl, Permutes-from_equal here, tt)
step-new e N M [] (g ∷ groups) a here other apart = absurd a
step-new e N M (x ∷ hashes) [] a here other apart = absurd a
step-new e N M (x ∷ hashes) (g ∷ groups) a here other apart = by (cases_Bool (bytes_eq g.hash e.hash))
  where
    by : (bytes_eq g.hash e.hash ≡ true) ⊎ (bytes_eq g.hash e.hash ≡ false) → AreGroups M (e.hash ∷ x ∷ hashes) (with_entry e (g ∷ groups))
    by (inl t) = absurd (apart x (inl refl) (sym a.0 ∙ (bytes_eq-Decides g.hash e.hash).0 t))
    by (inr f) =
        subst (λ (v : Bool). AreGroups M (e.hash ∷ x ∷ hashes)
        (cond v (record { hash = g.hash; nodes = g.nodes ++ e.node ∷ [] } ∷ groups) (record { hash = e.hash; nodes = e.node ∷ [] } ∷ g ∷ groups))) (sym f)
        (refl, Permutes-from_equal here, are_groups-same M N (x ∷ hashes) (g ∷ groups) (λ z m. Permutes-from_equal (other z m)) a)

-- ---- all of them

groups_of-ascending : (entries : List RelatedEntry) → TextsAscend (map hash_of_entry entries) → AreGroups (nodes_under entries) (each_text_once (map hash_of_entry entries)) (groups_of entries)
groups_of-ascending [] a = tt
groups_of-ascending (e ∷ []) a = step-new e (nodes_under []) (nodes_under (e ∷ [])) [] [] tt (under-here e [] e.hash refl) (λ z h. absurd h) (λ z h. absurd h)
groups_of-ascending (e ∷ d ∷ entries) a = by (cases_Bool (bytes_eq e.hash d.hash)) (groups_of-ascending (d ∷ entries) a.1)
  where
    s : Shape d.hash (each_text_once (map hash_of_entry (d ∷ entries)))
    s = shape d.hash (map hash_of_entry entries) a.1

    by : (bytes_eq e.hash d.hash ≡ true) ⊎ (bytes_eq e.hash d.hash ≡ false) → AreGroups (nodes_under (d ∷ entries)) (each_text_once (map hash_of_entry (d ∷ entries))) (groups_of (d ∷ entries))
        → AreGroups (nodes_under (e ∷ d ∷ entries)) (each_text_once (map hash_of_entry (e ∷ d ∷ entries))) (groups_of (e ∷ d ∷ entries))
    by (inl t) r =
        let same : e.hash ≡ d.hash = (bytes_eq-Decides e.hash d.hash).0 t in
        let k : AreGroups (nodes_under (d ∷ entries)) (d.hash ∷ s.tail) (groups_of (d ∷ entries)) = subst (λ hs. AreGroups (nodes_under (d ∷ entries)) hs (groups_of (d ∷ entries))) s.is r in
        subst (λ (v : Bool). AreGroups (nodes_under (e ∷ d ∷ entries)) (cond v (each_text_once (map hash_of_entry (d ∷ entries))) (e.hash ∷ each_text_once (map hash_of_entry (d ∷ entries))))
        (groups_of (e ∷ d ∷ entries))) (sym t)
        (subst (λ hs. AreGroups (nodes_under (e ∷ d ∷ entries)) hs (groups_of (e ∷ d ∷ entries))) (sym s.is)
        (step-same e (nodes_under (d ∷ entries)) (nodes_under (e ∷ d ∷ entries)) d.hash s.tail (groups_of (d ∷ entries)) (sym same) k (under-here e (d ∷ entries) d.hash same)
        (λ z m. under-other e (d ∷ entries) z (λ q. s.apart z m (q ∙ same)))))
    by (inr f) r =
        let apart : ¬ (In e.hash (map hash_of_entry (d ∷ entries))) = not_again e.hash d.hash (map hash_of_entry entries) a f in
        let far : (z : Text) → In z (each_text_once (map hash_of_entry (d ∷ entries)))
        → ¬ (z ≡ e.hash) = λ z m q. apart (subst (λ w. In w (map hash_of_entry (d ∷ entries))) q (from_In-each_text_once z (map hash_of_entry (d ∷ entries)) m)) in
        subst (λ (v : Bool). AreGroups (nodes_under (e ∷ d ∷ entries)) (cond v (each_text_once (map hash_of_entry (d ∷ entries))) (e.hash ∷ each_text_once (map hash_of_entry (d ∷ entries))))
        (groups_of (e ∷ d ∷ entries))) (sym f)
        (step-new e (nodes_under (d ∷ entries)) (nodes_under (e ∷ d ∷ entries)) (each_text_once (map hash_of_entry (d ∷ entries))) (groups_of (d ∷ entries)) r
        (under-here e (d ∷ entries) e.hash refl ∙ ap (λ ns. e.node ∷ ns) (under-none (d ∷ entries) e.hash apart)) (λ z m. under-other e (d ∷ entries) z (far z m)) far)

-- the entries were sorted by their hashes
groups_of-sorted : (entries inorder : List RelatedEntry) → Permutes entries inorder → map hash_of_entry inorder ≡ sorted (map hash_of_entry entries)
    → AreGroups (nodes_under entries) (related_hashes entries) (groups_of inorder)
unfolding related_hashes
groups_of-sorted entries inorder p e =
    subst (λ hs. AreGroups (nodes_under entries) (each_text_once hs) (groups_of inorder)) e
    (are_groups-same (nodes_under entries) (nodes_under inorder) (each_text_once (map hash_of_entry inorder)) (groups_of inorder) (λ z m. Permutes-map node_of_entry (Permutes-filter (is_under z) p))
    (groups_of-ascending inorder (subst TextsAscend (sym e) (Ascends-sorted (map hash_of_entry entries)))))

-- ---- with their nodes as they are read

arranged-groups : (ρ : Hashing) (N : Text → List ℕ) (hashes : List Text) (opened groups : List Group) → AreGroups N hashes opened → AllArranged ρ opened groups
    → AreGroups (λ z. as_read ρ (N z)) hashes groups
arranged-groups ρ N [] [] [] a r = tt
arranged-groups ρ N [] [] (g ∷ groups) a r = absurd r
arranged-groups ρ N [] (o ∷ opened) groups a r = absurd a
arranged-groups ρ N (z ∷ hashes) [] groups a r = absurd a
arranged-groups ρ N (z ∷ hashes) (o ∷ opened) [] a r = absurd r
arranged-groups ρ N (z ∷ hashes) (o ∷ opened) (g ∷ groups) a r = (r.0.hash ∙ a.0, permutes_trans (as_read-perm ρ a.1) r.0.nodes, arranged-groups ρ N hashes opened groups a.2 r.1)

pub arranged-are_groups : (ρ : Hashing) (entries inorder : List RelatedEntry) (opened groups : List Group) → Permutes entries inorder → map hash_of_entry inorder ≡ sorted (map hash_of_entry entries)
    → opened ≡ groups_of inorder → AllArranged ρ opened groups
    → AreGroups (blank_node_list ρ entries) (related_hashes entries) groups
unfolding blank_node_list
arranged-are_groups ρ entries inorder opened groups p e is r =
    arranged-groups ρ (nodes_under entries) (related_hashes entries) opened groups
    (subst (λ gs. AreGroups (nodes_under entries) (related_hashes entries) gs) (sym is) (groups_of-sorted entries inorder p e)) r

pub arranged-ascend : (ρ : Hashing) (opened groups : List Group) → AllArranged ρ opened groups → AllAscend groups
arranged-ascend ρ [] [] r group h = absurd h
arranged-ascend ρ [] (g ∷ groups) r group h = absurd r
arranged-ascend ρ (o ∷ opened) [] r group h = absurd h
arranged-ascend ρ (o ∷ opened) (g ∷ groups) r group (inl e) = subst (λ (w : Group). Ascends w.nodes) (sym e) r.0.ascending
arranged-ascend ρ (o ∷ opened) (g ∷ groups) r group (inr h) = arranged-ascend ρ opened groups r.1 group h

pub arranged-more : (ρ : Hashing) (opened groups : List Group) (o g : Group) → AllArranged ρ opened groups → IsArranged ρ o g → AllArranged ρ (opened ++ o ∷ []) (groups ++ g ∷ [])
arranged-more ρ [] [] o g r i = (i, tt)
arranged-more ρ [] (h ∷ groups) o g r i = absurd r
arranged-more ρ (p ∷ opened) [] o g r i = absurd r
arranged-more ρ (p ∷ opened) (h ∷ groups) o g r i = (r.0, arranged-more ρ opened groups o g r.1 i)

-- ---- they hold nodes of the dataset

are_groups-nodes : (N : Text → List ℕ) (bound : ℕ) → ((z : Text) (x : ℕ) → In x (N z) → x < bound) → (hashes : List Text) (groups : List Group) → AreGroups N hashes groups → (group : Group)
    → In group groups → (x : ℕ) → In x group.nodes → x < bound
are_groups-nodes N bound low [] [] a group h x m = absurd h
are_groups-nodes N bound low [] (g ∷ groups) a group h x m = absurd a
are_groups-nodes N bound low (z ∷ hashes) [] a group h x m = absurd h
are_groups-nodes N bound low (z ∷ hashes) (g ∷ groups) a group (inl e) x m = low z x (In-Permutes x (Permutes-sym a.1) (subst (λ (w : Group). In x w.nodes) e m))
are_groups-nodes N bound low (z ∷ hashes) (g ∷ groups) a group (inr h) x m = are_groups-nodes N bound low hashes groups a.2 group h x m

pub groups-bound : (ρ : Hashing) (D : Dataset) (c i : List ℕ) (n : ℕ) → IsValid D → (groups : List Group) → StandFor (groups_of_call ρ D c i n) groups → (group : Group) → In group groups → (x : ℕ)
    → In x group.nodes → x < D.nodes
groups-bound ρ D c i n valid groups a =
    are_groups-nodes (groups_of_call ρ D c i n).nodes D.nodes (λ z x. nodes_of_groups ρ D c (mentions_nodes D valid) i n z x) (groups_of_call ρ D c i n).hashes groups a
