-- The mentions of one more quad.
use Rattle.std.proofs.Common.{◌≡◌, ℕ, ◌+◌, List, [], ◌∷◌, ◌++◌, Some, slice_get, if◌then◌else◌, add-one, sym, ap, ◌∙◌}
use Rattle.std.proofs.lemmas.List.Elements.{filter-append}
use Rattle.rdf_terms.proofs.Common.{numbers_below, Statement, mentions}
use Rattle.dataset_index.specs.declared.mention.Mention.{Mention}
use Rattle.dataset_index.specs.Mentions.{mentioned_by, places_before, MentionsMore, AreMentions}

pub AreMentions-more : (sts : List Statement) (old new : List Mention) (k : ℕ) (st : Statement) → slice_get sts k ≡ Some st
    → AreMentions sts old k → MentionsMore old new (λ n. mentions n st) k → AreMentions sts new (k + 1)
AreMentions-more sts old new k st at before more n =
    more n
    ∙ ap (λ l. l ++ (if mentions n st then k ∷ [] else [])) (before n)
    ∙ ap (λ o. places_before sts k n ++ (if mentioned_by n o then k ∷ [] else [])) (sym at)
    ∙ sym (filter-append (λ j. mentioned_by n (slice_get sts j)) (numbers_below k) (k ∷ []))
    ∙ ap (λ j. places_before sts j n) (sym (add-one k))
