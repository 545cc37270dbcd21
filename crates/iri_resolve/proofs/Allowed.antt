-- What holds of each byte of the base and the reference, and of the delimiters, holds of each byte of what is resolved.
use Rattle.std.proofs.Common.{ℕ, zero, suc, ◌+◌, ◌-◌, not, ◌||◌, ◌&&◌, [], ◌∷◌, ◌++◌, All, length, take, drop, Option, Some, None, IfSome, is_some, codes, nat_eq, if◌then◌else◌}
use Rattle.std.specs.List.{list_any, position_or_len, suffix_len, after_first}
use Rattle.std.specs.Str.{bytes_eq}
use Rattle.std.proofs.lemmas.List.Elements.{All-take, All-drop, All-append, All-nil, All-cons}
use Rattle.std.proofs.lemmas.Bool.{cond_both}
use Rattle.rdf_terms.specs.Lists.{Text}
use Rattle.iri_resolve.specs.Scheme.{begins_with_scheme}
use Rattle.iri_resolve.specs.Components.{Components, components, before, after, from, without_scheme, hierarchy, has_authority}
use Rattle.iri_resolve.specs.DotSegments.{Buffers, begins, turn, turns, without_dot_segments, without_last_segment, first_segment_len}
use Rattle.iri_resolve.specs.Resolution.{target, merged, up_to_last_slash, begins_with_slash, behind, before_colon, recomposed, resolved}

module _ (P : ℕ → Type 0) (colon : P 58) (slash : P 47) (question_mark : P 63) (number_sign : P 35) where
  pub record AllParts (t : Components) : Type 0 where
    pub scheme : IfSome t.scheme (All P)
    pub authority : IfSome t.authority (All P)
    pub path : All P t.path
    pub query : IfSome t.query (All P)
    pub fragment : IfSome t.fragment (All P)

  -- ---- the components of a text

  All-before : (c : ℕ) (text : Text) → All P text → All P (before c text)
  All-before c text all = All-take P (position_or_len (λ b. nat_eq b c) text) text all

  All-after : (c : ℕ) (text : Text) → All P text → IfSome (after c text) (All P)
  All-after c text all =
      cond_both (list_any (λ b. nat_eq b c) text) (Some (after_first (λ b. nat_eq b c) text)) None (λ (o : Option Text). IfSome o (All P))
      (λ _. All-drop P (position_or_len (λ b. nat_eq b c) text + 1) text all) (λ _. tt)

  All-without_scheme : (text : Text) → All P text → All P (without_scheme text)
  All-without_scheme text all =
      cond_both (begins_with_scheme text) (after_first (λ b. nat_eq b 58) text) text (All P) (λ _. All-drop P (position_or_len (λ b. nat_eq b 58) text + 1) text all) (λ _. all)

  All-hierarchy : (text : Text) → All P text → All P (hierarchy text)
  All-hierarchy text all = All-before 63 (before 35 (without_scheme text)) (All-before 35 (without_scheme text) (All-without_scheme text all))

  All-components : (text : Text) → All P text → AllParts (components text)
  unfolding components
  All-components text all = record {
    scheme = cond_both (begins_with_scheme text) (Some (before 58 text)) None (λ (o : Option Text). IfSome o (All P)) (λ _. All-before 58 text all) (λ _. tt);
    authority =
        cond_both (has_authority (hierarchy text)) (Some (before 47 (drop 2 (hierarchy text)))) None (λ (o : Option Text). IfSome o (All P))
        (λ _. All-before 47 (drop 2 (hierarchy text)) (All-drop P 2 (hierarchy text) (All-hierarchy text all))) (λ _. tt);
    path =
        cond_both (has_authority (hierarchy text)) (from 47 (drop 2 (hierarchy text))) (hierarchy text) (All P)
        (λ _. All-drop P (position_or_len (λ b. nat_eq b 47) (drop 2 (hierarchy text))) (drop 2 (hierarchy text)) (All-drop P 2 (hierarchy text) (All-hierarchy text all)))
        (λ _. All-hierarchy text all);
    query = All-after 63 (before 35 (without_scheme text)) (All-before 35 (without_scheme text) (All-without_scheme text all));
    fragment = All-after 35 (without_scheme text) (All-without_scheme text all);
  }

  -- ---- removal of dot segments

  All-one : (x : ℕ) → P x → All P (x ∷ [])
  All-one x p = All-cons P x [] p (All-nil P)

  record AllBuffers (b : Buffers) : Type 0 where
    input : All P b.input
    output : All P b.output

  abbrev buffers : Text → Text → Buffers
  buffers input output = record { input = input; output = output }

  both : (input output : Text) → All P input → All P output → AllBuffers (buffers input output)
  both input output i o = record { input = i; output = o }

  All-last : (output : Text) → All P output → All P (without_last_segment output)
  All-last output all = All-take P (length output - suffix_len (λ x. not (nat_eq x 47)) output - 1) output all

  All-turn : (b : Buffers) → AllBuffers b → AllBuffers (turn b)
  unfolding turn
  All-turn b h =
      cond_both (begins b.input (codes "../")) _ _ AllBuffers (λ _. both (drop 3 b.input) b.output (All-drop P 3 b.input h.input) h.output) (λ _.
      cond_both (begins b.input (codes "./")) _ _ AllBuffers (λ _. both (drop 2 b.input) b.output (All-drop P 2 b.input h.input) h.output) (λ _.
      cond_both (begins b.input (codes "/./")) _ _ AllBuffers (λ _. both (drop 2 b.input) b.output (All-drop P 2 b.input h.input) h.output) (λ _.
      cond_both (bytes_eq b.input (codes "/.")) _ _ AllBuffers (λ _. both (codes "/") b.output (All-one 47 slash) h.output) (λ _.
      cond_both (begins b.input (codes "/../")) _ _ AllBuffers (λ _. both (drop 3 b.input) (without_last_segment b.output) (All-drop P 3 b.input h.input) (All-last b.output h.output)) (λ _.
      cond_both (bytes_eq b.input (codes "/..")) _ _ AllBuffers (λ _. both (codes "/") (without_last_segment b.output) (All-one 47 slash) (All-last b.output h.output)) (λ _.
      cond_both (bytes_eq b.input (codes ".") || bytes_eq b.input (codes "..")) _ _ AllBuffers (λ _. both [] b.output (All-nil P) h.output) (λ _.
      both (drop (first_segment_len b.input) b.input) (b.output ++ take (first_segment_len b.input) b.input) (All-drop P (first_segment_len b.input) b.input h.input)
      (All-append P b.output (take (first_segment_len b.input) b.input) h.output (All-take P (first_segment_len b.input) b.input h.input)))))))))

  All-turns : (n : ℕ) (b : Buffers) → AllBuffers b → AllBuffers (turns n b)
  All-turns zero b h = h
  All-turns (suc n) b h = cond_both (nat_eq (length b.input) 0) b (turns n (turn b)) AllBuffers (λ _. h) (λ _. All-turns n (turn b) (All-turn b h))

  All-without_dot_segments : (path : Text) → All P path → All P (without_dot_segments path)
  unfolding without_dot_segments
  All-without_dot_segments path all = (All-turns (length path) (buffers path []) (both path [] all (All-nil P))).output

  -- ---- the target

  All-merged : (base : Components) (path : Text) → AllParts base → All P path → All P (merged base path)
  All-merged base path b all =
      cond_both (is_some base.authority && nat_eq (length base.path) 0) (codes "/" ++ path) (up_to_last_slash base.path ++ path) (All P)
      (λ _. All-append P (codes "/") path (All-one 47 slash) all)
      (λ _. All-append P (up_to_last_slash base.path) path
      (cond_both (list_any (λ x. nat_eq x 47) base.path) (without_last_segment base.path ++ codes "/") [] (All P)
      (λ _. All-append P (without_last_segment base.path) (codes "/") (All-last base.path b.path) (All-one 47 slash)) (λ _. All-nil P))
      all)

  parts : (t : Components) → IfSome t.scheme (All P) → IfSome t.authority (All P) → All P t.path → IfSome t.query (All P) → IfSome t.fragment (All P) → AllParts t
  parts t s a p q f = record { scheme = s; authority = a; path = p; query = q; fragment = f }

  All-target : (base reference : Components) → AllParts base → AllParts reference → AllParts (target base reference)
  unfolding target
  All-target base reference b r =
      let own = All-without_dot_segments reference.path r.path in
      cond_both (is_some reference.scheme) _ _ AllParts (λ _. parts (record reference { path = without_dot_segments reference.path }) r.scheme r.authority own r.query r.fragment) (λ _.
      cond_both (is_some reference.authority) _ _ AllParts
      (λ _. parts (record reference { scheme = base.scheme; path = without_dot_segments reference.path }) b.scheme r.authority own r.query r.fragment) (λ _.
      cond_both (nat_eq (length reference.path) 0) _ _ AllParts
      (λ _. parts (record base { query = if is_some reference.query then reference.query else base.query; fragment = reference.fragment }) b.scheme b.authority b.path
      (cond_both (is_some reference.query) reference.query base.query (λ (o : Option Text). IfSome o (All P)) (λ _. r.query) (λ _. b.query)) r.fragment) (λ _.
      let path : Text = if begins_with_slash reference.path then reference.path else merged base reference.path in
      parts (record reference { scheme = base.scheme; authority = base.authority; path = without_dot_segments path }) b.scheme b.authority
      (All-without_dot_segments path (cond_both (begins_with_slash reference.path) reference.path (merged base reference.path) (All P) (λ _. r.path) (λ _. All-merged base reference.path b r.path)))
      r.query r.fragment)))

  -- ---- as one text

  All-behind : (delimiter : Text) (part : Option Text) → All P delimiter → IfSome part (All P) → All P (behind delimiter part)
  All-behind delimiter None d all = All-nil P
  All-behind delimiter (Some part) d all = All-append P delimiter part d all

  All-before_colon : (part : Option Text) → IfSome part (All P) → All P (before_colon part)
  All-before_colon None all = All-nil P
  All-before_colon (Some part) all = All-append P part (codes ":") all (All-one 58 colon)

  All-recomposed : (t : Components) → AllParts t → All P (recomposed t)
  unfolding recomposed
  All-recomposed t h =
      All-append P _ (behind (codes "#") t.fragment)
      (All-append P _ (behind (codes "?") t.query)
      (All-append P _ t.path
      (All-append P (before_colon t.scheme) (behind (codes "//") t.authority) (All-before_colon t.scheme h.scheme)
      (All-behind (codes "//") t.authority (All-cons P 47 (47 ∷ []) slash (All-one 47 slash)) h.authority))
      h.path)
      (All-behind (codes "?") t.query (All-one 63 question_mark) h.query))
      (All-behind (codes "#") t.fragment (All-one 35 number_sign) h.fragment)

  pub All-resolved : (base reference : Text) → All P base → All P reference → All P (resolved base reference)
  unfolding resolved
  All-resolved base reference b r =
      All-recomposed (target (components base) (components reference)) (All-target (components base) (components reference) (All-components base b) (All-components reference r))
