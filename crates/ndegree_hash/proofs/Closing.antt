-- The end of a group: the chosen issuer comes back on the trail, and its ties are logged.
use Rattle.std.proofs.Common.{Bool, List, None, Some, [], ap, arith, cond, drop, false, get_or, length, map, refl, subst, sym, take, true, ℕ, ◌++◌, ◌<◌, ◌∙◌, ◌∷◌, ◌≡◌, ◌≤◌}
use Rattle.std.proofs.lemmas.List.{length-take, length-take-le, map-append, take-append-drop, take_all}
use Rattle.rdf_terms.proofs.Common.{Dataset, In, In-append_right, In-map, In-get_or, map-map}
use Rattle.canon_model.specs.CountedRun.{Tie, issuer_or, logged, path_or_none, ties_of_chosen}
use Rattle.ndegree_hash.specs.declared.frame.Frame.{Frame}
use Rattle.ndegree_hash.specs.declared.at.At.TheVariants.{Close, Group}
use Rattle.ndegree_hash.specs.Closing.{tie_with}
use Rattle.ndegree_hash.specs.KnownNodes.{IsKnown, IsSound, IsTrail}
use Rattle.ndegree_hash.specs.FrameSteps.{Leads}
use Rattle.ndegree_hash.specs.OwedTies.{MayBeLogged, ties_at}
use Rattle.ndegree_hash.specs.Frames.{choice_of, chosen_issuer}
use Rattle.ndegree_hash.specs.Log.{LoggedTies, Logs, LogsFront, LogsInTurn}
use Rattle.tie_witness.specs.Witness.{TailMayBeChecked, right_of}
use Rattle.ndegree_hash.proofs.GroupSteps.{close-leads}
use Rattle.ndegree_hash.proofs.Logging.{logs-last}
use Rattle.ndegree_hash.proofs.TrailParts.{choice-none, choice-some}
use Rattle.std.proofs.Math.Seq.{take-append_seam}

-- ---- what is chosen

pub chosen-trail : (D : Dataset) (c t : List ℕ) (f : Frame) → f.paths.has_choice ≡ true → IsKnown D c t f → IsTrail D c (chosen_issuer t f)
chosen-trail D c t f e k = subst (IsSound D c) (choice-some t f e) k.chosen

-- where its nodes are kept aside
pub aside-trail : (D : Dataset) (c t : List ℕ) (f : Frame) → f.paths.has_choice ≡ true → f.on_trail ≡ false → IsKnown D c t f → IsTrail D c (take f.mark t ++ f.tail.items)
aside-trail D c t f e aside k = subst (IsTrail D c) (ap (λ (b : Bool). cond b t (take f.mark t ++ f.tail.items)) aside) (chosen-trail D c t f e k)

-- each of these nodes has a number of 32 bits
pub aside-fits : (D : Dataset) (c t : List ℕ) (f : Frame) (most : ℕ) → f.paths.has_choice ≡ true → f.on_trail ≡ false → IsKnown D c t f → D.nodes ≤ most → (k d : ℕ) → k < length f.tail.items
    → get_or f.tail.items k d < most
aside-fits D c t f most e aside known fits k d h =
    let low = (aside-trail D c t f e aside known).nodes (get_or f.tail.items k d) (In-append_right (take f.mark t) f.tail.items (get_or f.tail.items k d) (In-get_or f.tail.items k d h)) in
    omega arith

-- ---- below the mark the trail stays

take-begun : (t s : List ℕ) (m : ℕ) → m ≤ length t → take m (take m t ++ s) ≡ take m t
take-begun t s m h = ap (λ n. take n (take m t ++ s)) (sym (length-take-le m t h)) ∙ take-append_seam (take m t) s

pub chosen-below : (t : List ℕ) (f : Frame) → f.mark ≤ length t → take f.mark (chosen_issuer t f) ≡ take f.mark t
chosen-below t f h = by f.on_trail
  where
    by : (b : Bool) → take f.mark (cond b t (take f.mark t ++ f.tail.items)) ≡ take f.mark t
    by true = refl
    by false = take-begun t f.tail.items f.mark h

pub chosen-long : (t u : List ℕ) (f : Frame) → f.mark ≤ length t → u ≡ chosen_issuer t f → f.mark ≤ length u
chosen-long t u f h e =
    let below : length (take f.mark u) ≡ length (take f.mark t) = ap (λ v. length (take f.mark v)) e ∙ ap length (chosen-below t f h) in
    let a = length-take f.mark u in
    let b = length-take-le f.mark t h in
    omega arith

-- ---- the group is closed

pub close-chosen : (c t u : List ℕ) (f g : Frame) → f.mark ≤ length t → f.paths.has_choice ≡ true → u ≡ chosen_issuer t f → g.text.items ≡ f.text.items ++ f.paths.chosen → g.groups ≡ f.groups
    → g.mark ≡ f.mark
    → Leads c t f Close (logged (ties_at c t f Close)) u g Group
close-chosen c t u f g m has trail text groups mark =
    close-leads c t u f g m (trail ∙ ap (λ ch. issuer_or ch (take f.mark t)) (sym (choice-some t f has))) (ap (λ v. take f.mark v) trail ∙ chosen-below t f m)
    (text ∙ ap (λ ch. f.text.items ++ path_or_none ch) (sym (choice-some t f has))) groups mark

pub close-none : (c t u : List ℕ) (f g : Frame) → f.mark ≤ length t → f.paths.has_choice ≡ false → u ≡ take f.mark t → g.text.items ≡ f.text.items ++ [] → g.groups ≡ f.groups → g.mark ≡ f.mark
    → Leads c t f Close (logged (ties_at c t f Close)) u g Group
close-none c t u f g m none trail text groups mark =
    close-leads c t u f g m (trail ∙ ap (λ ch. issuer_or ch (take f.mark t)) (sym (choice-none t f none)))
    (ap (λ v. take f.mark v) trail ∙ take_all f.mark (take f.mark t) (let h = length-take f.mark t in omega arith))
    (text ∙ ap (λ ch. f.text.items ++ path_or_none ch) (sym (choice-none t f none))) groups mark

-- ---- its ties

abbrev tie_by : List ℕ → List ℕ → List ℕ → List ℕ → Tie
tie_by c i left right = record { canonical = c; passed = i; left = left; right = right }

pub ties-are : (c t u : List ℕ) (f : Frame) (others : List (List ℕ)) → f.mark ≤ length t → f.paths.has_choice ≡ true → u ≡ chosen_issuer t f → others ≡ f.others.items
    → map (tie_with c f.mark u) others ≡ ties_at c t f Close
ties-are c t u f others m has trail same =
    let all : List ℕ → List ℕ → List Tie = λ i left. map (λ tail. tie_by c i left (i ++ tail)) f.others.items in
    ap (map (tie_with c f.mark u)) same ∙ ap (λ i. all i u) (ap (λ v. take f.mark v) trail ∙ chosen-below t f m)
    ∙ ap (λ left. all (take f.mark t) left) trail
    ∙ sym (map-map (tie_by c (take f.mark t) (chosen_issuer t f)) (λ tail. take f.mark t ++ tail) f.others.items)
    ∙ ap (λ ch. ties_of_chosen ch c (take f.mark t)) (sym (choice-some t f has))

pub others-may_be_checked : (D : Dataset) (c t u : List ℕ) (f : Frame) → f.mark ≤ length t → f.paths.has_choice ≡ true → u ≡ chosen_issuer t f → MayBeLogged D (ties_at c t f Close)
    → (k : ℕ) (d : List ℕ) → k < length f.others.items → TailMayBeChecked D c f.mark u (get_or f.others.items k d)
others-may_be_checked D c t u f m has trail may k d h =
    let tail : List ℕ = get_or f.others.items k d in
    record {
      within = chosen-long t u f m trail;
      exchanged = may (tie_with c f.mark u tail)
          (subst (λ (ties : List Tie). In (tie_with c f.mark u tail) ties) (ties-are c t u f f.others.items m has trail refl)
          (In-map (tie_with c f.mark u) f.others.items tail (In-get_or f.others.items k d h)));
    }

-- one more of them
pub others-next : (D : Dataset) (c : List ℕ) (m : ℕ) (t : List ℕ) (done : List (List ℕ)) (tail : List ℕ) (more : List (List ℕ)) (old mid new : LoggedTies) → more ≡ done ++ tail ∷ []
    → LogsInTurn D (map (tie_with c m t) done) old mid
    → Logs D (record { canon = c; passed = m; left = t; right = right_of m t tail }) mid new → LogsInTurn D (map (tie_with c m t) more) old new
others-next D c m t done tail more old mid new e h l =
    subst (λ ties. LogsInTurn D ties old new) (sym (ap (map (tie_with c m t)) e ∙ map-append (tie_with c m t) done (tail ∷ [])))
    (logs-last D (map (tie_with c m t) done) (tie_with c m t tail) old mid new h (record { carried = record { canon = c; passed = m; left = t; right = right_of m t tail }; is = refl; logs = l }))

-- so many of them were logged, and no more
pub front-of_others : (D : Dataset) (c : List ℕ) (m : ℕ) (t : List ℕ) (k : ℕ) (others : List (List ℕ)) (old mid new : LoggedTies) → new ≡ mid
    → LogsInTurn D (map (tie_with c m t) (take k others)) old mid
    → LogsFront (LogsInTurn D) (map (tie_with c m t) others) old new
front-of_others D c m t k others old mid new e logs = record {
  front = map (tie_with c m t) (take k others);
  others = map (tie_with c m t) (drop k others);
  ties_are = ap (map (tie_with c m t)) (sym (take-append-drop k others)) ∙ map-append (tie_with c m t) (take k others) (drop k others);
  logs = subst (λ log. LogsInTurn D (map (tie_with c m t) (take k others)) old log) (sym e) logs;
}
