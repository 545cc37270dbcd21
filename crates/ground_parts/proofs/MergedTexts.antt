-- What is allowed for the whole is what is merged of texts that are allowed for the parts.
use Rattle.std.proofs.Common.{List, [], All, inl, inr, map, refl, subst, sym, ℕ, ◌<◌, ◌∙◌, ◌∷◌, ◌≡◌, ◌⊎◌}
use Rattle.std.proofs.lemmas.List.Elements.{All-head, All-tail}
use Rattle.rdf_terms.proofs.Common.{Dataset, In, In-Permutes, In-map, IsValid, Permutes-sym, Statement, Text, each-from_All, from_In-map, issued_names, sorted, sorted-permutes}
use Rattle.rdf_terms.specs.declared.term.Prefix.TheVariants.{Canonical}
use Rattle.canon_model.specs.Hashing.{Hashing}
use Rattle.canon_model.specs.Allowed.{IsCanonicalList, IsCanonicalOutput, canonical_form}
use Rattle.canon_model.specs.CountedRun.{Counted, counted_run}
use Rattle.canon_model.specs.Output.{chosen_form}
use Rattle.canon_model.proofs.CanonicalLists.{canonical_lists_are_complete}
use Rattle.canon_model.proofs.CountedAllowed.{counted_run_is_allowed}
use Rattle.ground_parts.specs.Ground.{IsGround}
use Rattle.ground_parts.specs.Lines.{HasLine, IsLineOfSome, IsMerge}
use Rattle.ground_parts.specs.Parts.{AreOutputs, ChosenFormIsMerge, HasParts, IsMergeOfOutputs, IsQuadOfSome, OutputsAreMerges}
use Rattle.ground_parts.proofs.AscendingLines.{sorted-strictly}
use Rattle.ground_parts.proofs.GroundTexts.{canonical_line-ground, ground_has_one_output}
use Rattle.ground_parts.proofs.Merging.{merges_are_one}
use Rattle.ground_parts.proofs.SameOutcomes.{canonical_lists_go_by_nodes}
use Rattle.ground_parts.proofs.SameRuns.{counted_runs_go_by_nodes}
use Rattle.ground_parts.proofs.Texts.{canonical_lines, from_has_line, has_line_of, line_of, lines_are_distinct}
use Rattle.ground_parts.proofs.Whole.{other_is_ground, whole_has_same_quads, whole_is_valid}

-- the text of a ground dataset
abbrev pub ground_text : Dataset → Text
ground_text G = canonical_form G []

-- ---- the form of the whole is a merge

module _ (ρ : Hashing) (D A : Dataset) (others : List Dataset) (p : HasParts D A others) (c : List ℕ) (allowed : IsCanonicalList ρ A c) where
  listed : (x : ℕ) → x < D.nodes → In x c
  listed x h = ((canonical_lists_are_complete ρ A p.valid c allowed).0 x).1 (subst (λ m. x < m) p.nodes h)

  to_some : (line : Text) → In line (sorted (map (line_of c) D.statements)) → IsLineOfSome (canonical_form A c ∷ map ground_text others) line
  to_some line h = by ((p.quads r.0).0 r.1)
    where
      r : (st : Statement) × In st D.statements × (line ≡ line_of c st)
      r = from_In-map (line_of c) D.statements line (In-Permutes line (Permutes-sym (sorted-permutes (map (line_of c) D.statements))) h)

      by : In r.0 A.statements ⊎ IsQuadOfSome others r.0 → IsLineOfSome (canonical_form A c ∷ map ground_text others) line
      by (inl i) = record { text = canonical_form A c; there = inl refl; has_line = subst (HasLine (canonical_form A c)) (sym r.2) (has_line_of c A p.valid r.0 i) }
      by (inr w) = record {
        text = ground_text w.dataset;
        there = inr (In-map ground_text others w.dataset w.there);
        has_line =
            subst (HasLine (ground_text w.dataset)) (sym (r.2 ∙ canonical_line-ground (issued_names Canonical c) (issued_names Canonical []) r.0 (other_is_ground D A others p r.0 w)))
            (has_line_of [] w.dataset (each-from_All IsValid others w.dataset p.others_valid w.there) r.0 w.has_quad);
      }

  of_whole : (line : Text) (st : Statement) → In st D.statements → line ≡ line_of c st → In line (sorted (map (line_of c) D.statements))
  of_whole line st h e =
      In-Permutes line (sorted-permutes (map (line_of c) D.statements)) (subst (λ l. In l (map (line_of c) D.statements)) (sym e) (In-map (line_of c) D.statements st h))

  from_some : (line : Text) → IsLineOfSome (canonical_form A c ∷ map ground_text others) line → In line (sorted (map (line_of c) D.statements))
  from_some line w = by w.there
    where
      by : (w.text ≡ canonical_form A c) ⊎ In w.text (map ground_text others) → In line (sorted (map (line_of c) D.statements))
      by (inl e) =
          let r = from_has_line c A p.valid line (subst (λ t. HasLine t line) e w.has_line) in
          of_whole line r.0 ((p.quads r.0).1 (inl r.1)) r.2
      by (inr h) =
          let g = from_In-map ground_text others w.text h in
          let r = from_has_line [] g.0 (each-from_All IsValid others g.0 p.others_valid g.1) line (subst (λ t. HasLine t line) g.2 w.has_line) in
          let q : IsQuadOfSome others r.0 = record { dataset = g.0; there = g.1; has_quad = r.1 } in
          of_whole line r.0 ((p.quads r.0).1 (inr q)) (r.2 ∙ canonical_line-ground (issued_names Canonical []) (issued_names Canonical c) r.0 (other_is_ground D A others p r.0 q))

  pub form_is_merge : IsMerge (canonical_form A c ∷ map ground_text others) (canonical_form D c)
  form_is_merge = let v = whole_is_valid D A others p in record {
    lines = sorted (map (line_of c) D.statements);
    are_lines = canonical_lines c D v;
    ascending = sorted-strictly (map (line_of c) D.statements) (lines_are_distinct c D v listed);
    all = λ line. (to_some line, from_some line);
  }

-- ---- texts of ground datasets

module _ (ρ : Hashing) where
  ground_outputs : (others : List Dataset) → All IsValid others → All IsGround others → AreOutputs ρ others (map ground_text others)
  ground_outputs [] v h = tt
  ground_outputs (G ∷ others) v h = (
    (ground_has_one_output ρ G (All-head IsValid G others v) (All-head IsGround G others h) (ground_text G)).1 refl,
    ground_outputs others (All-tail IsValid G others v) (All-tail IsGround G others h),
  )

  from_ground_outputs : (others : List Dataset) (texts : List Text) → All IsValid others → All IsGround others → AreOutputs ρ others texts → texts ≡ map ground_text others
  from_ground_outputs [] [] v h o = refl
  from_ground_outputs [] (text ∷ texts) v h o = absurd o
  from_ground_outputs (G ∷ others) [] v h o = absurd o
  from_ground_outputs (G ∷ others) (text ∷ texts) v h o =
      λ k. (ground_has_one_output ρ G (All-head IsValid G others v) (All-head IsGround G others h) text).0 o.0 k
      ∷ from_ground_outputs others texts (All-tail IsValid G others v) (All-tail IsGround G others h) o.1 k

  pub chosen_form-ground : (others : List Dataset) → All IsValid others → All IsGround others → map (chosen_form ρ) others ≡ map ground_text others
  chosen_form-ground [] v h = refl
  chosen_form-ground (G ∷ others) v h =
      λ k. (ground_has_one_output ρ G (All-head IsValid G others v) (All-head IsGround G others h) (chosen_form ρ G)).0
      (record { list = (counted_run ρ G).value; allowed = counted_run_is_allowed ρ G (All-head IsValid G others v); text_is = refl }) k
      ∷ chosen_form-ground others (All-tail IsValid G others v) (All-tail IsGround G others h) k

-- ---- the laws

module _ (ρ : Hashing) (D A : Dataset) (others : List Dataset) (p : HasParts D A others) where
  parted : (text : Text) → IsCanonicalOutput ρ D text → IsMergeOfOutputs ρ (A ∷ others) text
  parted text w =
      let allowed = (canonical_lists_go_by_nodes ρ A D (whole_has_same_quads D A others p) w.list).1 w.allowed in
      record {
        texts = canonical_form A w.list ∷ map ground_text others;
        outputs = (record { list = w.list; allowed = allowed; text_is = refl }, ground_outputs ρ others p.others_valid p.others_ground);
        merge = subst (IsMerge (canonical_form A w.list ∷ map ground_text others)) (sym w.text_is) (form_is_merge ρ D A others p w.list allowed);
      }

  put_together : (text : Text) (texts : List Text) → AreOutputs ρ (A ∷ others) texts → IsMerge texts text → IsCanonicalOutput ρ D text
  put_together text [] o m = absurd o
  put_together text (t ∷ texts) o m = record {
    list = o.0.list;
    allowed = (canonical_lists_go_by_nodes ρ A D (whole_has_same_quads D A others p) o.0.list).0 o.0.allowed;
    text_is =
        merges_are_one (canonical_form A o.0.list ∷ map ground_text others) text (canonical_form D o.0.list) (subst (λ ts. IsMerge ts text) same m)
        (form_is_merge ρ D A others p o.0.list o.0.allowed);
  }
    where
      same : t ∷ texts ≡ canonical_form A o.0.list ∷ map ground_text others
      same = λ k. o.0.text_is k ∷ from_ground_outputs ρ others texts p.others_valid p.others_ground o.1 k

  chosen : IsMerge (map (chosen_form ρ) (A ∷ others)) (chosen_form ρ D)
  chosen =
      subst (λ ts. IsMerge (chosen_form ρ A ∷ ts) (chosen_form ρ D)) (sym (chosen_form-ground ρ others p.others_valid p.others_ground))
      (subst (λ (run : Counted (List ℕ)). IsMerge (chosen_form ρ A ∷ map ground_text others) (canonical_form D run.value))
      (sym (counted_runs_go_by_nodes ρ A D (whole_has_same_quads D A others p)))
      (form_is_merge ρ D A others p (counted_run ρ A).value (counted_run_is_allowed ρ A p.valid)))

pub outputs_are_merges : OutputsAreMerges
outputs_are_merges ρ D A others p text = (parted ρ D A others p text, (λ w. put_together ρ D A others p text w.texts w.outputs w.merge))

pub chosen_form_is_merge : ChosenFormIsMerge
chosen_form_is_merge ρ D A others p = chosen ρ D A others p
