-- Options as words: how they are spelled tells which they are, and where they end.
use Rattle.std.proofs.Common.{◌≡◌, ℕ, suc, true≢false, List, [], ◌∷◌, ◌++◌, Some, None, Option, IfNone, map, inl, inr, get_or, drop, length, if◌then◌else◌, ◌==◌, refl, sym, ap, ◌∙◌, subst, append_assoc, append-nil, arith}
use Rattle.std.specs.Prelude.{flat_map}
use Rattle.std.proofs.lemmas.List.{map-append}
use Rattle.rdf_terms.proofs.Common.{Text, In, AreDistinct, AreDistinct-push, In-append, In-append_right, In-map, numeral, numeral-injective}
use Rattle.canon_model.specs.declared.profile.HashKind.{HashKind}
use Rattle.canon_model.specs.declared.profile.HashKind.TheVariants.{Sha256, Sha384}
use Rattle.canon_model.specs.declared.profile.Related.{Related as Reading}
use Rattle.canon_model.specs.declared.profile.Related.TheVariants.{Each, Once}
use Rattle.rdfc_cli.specs.Words.{Given, name_word, option_name, option_value, hash_word, related_word, spelled_option, HasGoodValue}
use Rattle.rdfc_cli.specs.Words.Given.{limit, hash, related, as_map, as_trig, base}
use Rattle.rdfc_cli.specs.Options.{Chosen, chosen_by, with_option, IsNew, MayFollow, MayRead, Adds, Reads, BeginsNoOption, BeginsWithName, BeginsWithOptions, AreNoOptions}
use Rattle.rdfc_cli.specs.declared.options.OptionName.{OptionName}
use Rattle.rdfc_cli.specs.declared.options.OptionName.TheVariants.{Limit, Hash, Related, Map, TriG, Base}

-- what holds at any rate
pub if_none : {A P : Type 0} (o : Option A) → P → IfNone o P
if_none None p = p
if_none (Some x) p = tt

-- ---- words

pub head_same : {A : Type 0} (x y : A) (xs ys : List A) → x ∷ xs ≡ y ∷ ys → x ≡ y
head_same x y xs ys e = ap (λ l. get_or l 0 x) e

pub tail_same : {A : Type 0} (x y : A) (xs ys : List A) → x ∷ xs ≡ y ∷ ys → xs ≡ ys
tail_same x y xs ys e = ap (λ l. drop 1 l) e

pub not_empty : {A : Type 0} (x : A) (xs : List A) → ¬ ([] ≡ x ∷ xs)
not_empty x xs e = let lengths : 0 ≡ suc (length xs) = ap length e in omega arith

-- the bytes of two texts at one place
at_place : (i : ℕ) (s t : Text) → s ≡ t → get_or s i 0 ≡ get_or t i 0
at_place i s t e = ap (λ l. get_or l i 0) e

-- the byte behind the two dashes tells an option's name
name_at : ℕ → OptionName
name_at byte = if byte == 108 then Limit else if byte == 104 then Hash else if byte == 109 then Map else if byte == 116 then TriG else if byte == 98 then Base else Related

name_of_word : (m : OptionName) → name_at (get_or (name_word m) 2 0) ≡ m
unfolding name_at
name_of_word Limit = refl
name_of_word Hash = refl
name_of_word Related = refl
name_of_word Map = refl
name_of_word TriG = refl
name_of_word Base = refl

pub name_word-injective : (m n : OptionName) → name_word m ≡ name_word n → m ≡ n
name_word-injective m n e = sym (name_of_word m) ∙ ap name_at (at_place 2 (name_word m) (name_word n) e) ∙ name_of_word n

hash_at : ℕ → HashKind
hash_at byte = if byte == 50 then Sha256 else Sha384

hash_of_word : (m : HashKind) → hash_at (get_or (hash_word m) 3 0) ≡ m
unfolding hash_at
hash_of_word Sha256 = refl
hash_of_word Sha384 = refl

hash_word-injective : (m n : HashKind) → hash_word m ≡ hash_word n → m ≡ n
hash_word-injective m n e = sym (hash_of_word m) ∙ ap hash_at (at_place 3 (hash_word m) (hash_word n) e) ∙ hash_of_word n

reading_at : ℕ → Reading
reading_at byte = if byte == 101 then Each else Once

reading_of_word : (m : Reading) → reading_at (get_or (related_word m) 0 0) ≡ m
unfolding reading_at
reading_of_word Each = refl
reading_of_word Once = refl

related_word-injective : (m n : Reading) → related_word m ≡ related_word n → m ≡ n
related_word-injective m n e = sym (reading_of_word m) ∙ ap reading_at (at_place 0 (related_word m) (related_word n) e) ∙ reading_of_word n

-- ---- lists of options that are spelled alike

-- options of one name, with the words behind the name
same_behind : (g h : Given) (words more : List Text) → option_name g ≡ option_name h → option_value g ++ words ≡ option_value h ++ more → (g ≡ h) × (words ≡ more)
same_behind (limit m) (limit n) words more e b = (ap limit (numeral-injective m n (head_same (numeral m) (numeral n) words more b)), tail_same (numeral m) (numeral n) words more b)
same_behind (hash k) (hash l) words more e b = (ap hash (hash_word-injective k l (head_same (hash_word k) (hash_word l) words more b)), tail_same (hash_word k) (hash_word l) words more b)
same_behind (related r) (related s) words more e b =
    (ap related (related_word-injective r s (head_same (related_word r) (related_word s) words more b)), tail_same (related_word r) (related_word s) words more b)
same_behind as_map as_map words more e b = (refl, b)
same_behind as_trig as_trig words more e b = (refl, b)
same_behind (base i) (base j) words more e b = (ap base (head_same i j words more b), tail_same i j words more b)
same_behind g h words more e b = absurd (let c : option_name g ≡ option_name h = e in cc)

same_spelled : (g h : Given) (words more : List Text) → spelled_option g ++ words ≡ spelled_option h ++ more → (g ≡ h) × (words ≡ more)
same_spelled g h words more e =
    let name = head_same (name_word (option_name g)) (name_word (option_name h)) (option_value g ++ words) (option_value h ++ more) e in
    let behind = tail_same (name_word (option_name g)) (name_word (option_name h)) (option_value g ++ words) (option_value h ++ more) e in
    same_behind g h words more (name_word-injective (option_name g) (option_name h) name) behind

pub begins_option : (g : Given) (words more : List Text) → BeginsNoOption more → ¬ (spelled_option g ++ words ≡ more)
begins_option g words [] none e = not_empty (name_word (option_name g)) (option_value g ++ words) (sym e)
begins_option g words (w ∷ ws) none e = none (option_name g) (head_same w (name_word (option_name g)) ws (option_value g ++ words) (sym e))

-- the first option, and the words behind it
pub spelled_first : (g : Given) (gs : List Given) (rest : List Text) → flat_map spelled_option (g ∷ gs) ++ rest ≡ spelled_option g ++ (flat_map spelled_option gs ++ rest)
spelled_first g gs rest = append_assoc (spelled_option g) (flat_map spelled_option gs) rest

-- the one list goes on where the other ends
pub record GoesOn (given other : List Given) (rest more : List Text) : Type 0 where
  pub behind : List Given
  pub other_is : other ≡ given ++ behind
  pub rest_is : rest ≡ flat_map spelled_option behind ++ more

pub goes_on : (given other : List Given) (rest more : List Text) → BeginsNoOption more → flat_map spelled_option given ++ rest ≡ flat_map spelled_option other ++ more → GoesOn given other rest more
goes_on [] other rest more none e = record { behind = other; other_is = refl; rest_is = e }
goes_on (g ∷ gs) [] rest more none e = absurd (begins_option g (flat_map spelled_option gs ++ rest) more none (sym (spelled_first g gs rest) ∙ e))
goes_on (g ∷ gs) (h ∷ hs) rest more none e =
    let s = same_spelled g h (flat_map spelled_option gs ++ rest) (flat_map spelled_option hs ++ more) (sym (spelled_first g gs rest) ∙ (e ∙ spelled_first h hs more)) in
    let r = goes_on gs hs rest more none s.1 in
    record { behind = r.behind; other_is = (λ i. sym s.0 i ∷ r.other_is i); rest_is = r.rest_is }

no_more_behind : (behind : List Given) (rest more : List Text) → BeginsNoOption rest → rest ≡ flat_map spelled_option behind ++ more → (behind ≡ []) × (rest ≡ more)
no_more_behind [] rest more none e = (refl, e)
no_more_behind (g ∷ gs) rest more none e = absurd (begins_option g (flat_map spelled_option gs ++ more) rest none (sym (e ∙ spelled_first g gs more)))

-- both lists end before a word that is no option's name, so they are one
pub same_options : (given other : List Given) (rest more : List Text) → BeginsNoOption rest → BeginsNoOption more → flat_map spelled_option given ++ rest ≡ flat_map spelled_option other ++ more
    → (other ≡ given) × (rest ≡ more)
same_options given other rest more none not e =
    let g = goes_on given other rest more not e in
    let n = no_more_behind g.behind rest more none g.rest_is in
    (g.other_is ∙ ap (λ b. given ++ b) n.0 ∙ append-nil given, n.1)

-- ---- an option that was read before

pub name_there : (given : List Given) (g : Given) → IsNew (chosen_by given) g → ¬ (In (option_name g) (map option_name given))
name_there [] g new i = i
name_there (limit m ∷ gs) (limit n) new i = cc
name_there (hash l ∷ gs) (hash k) new i = cc
name_there (related s ∷ gs) (related r) new i = cc
name_there (as_map ∷ gs) as_map new i = true≢false new
name_there (as_trig ∷ gs) as_trig new i = true≢false new
name_there (base j ∷ gs) (base i) new there = cc
name_there (h ∷ gs) g new (inl e) = cc
name_there (h ∷ gs) g new (inr i) = name_there gs g new i

pub new_name : (given : List Given) (g : Given) → ¬ (In (option_name g) (map option_name given)) → IsNew (chosen_by given) g
new_name [] (limit n) none = refl
new_name [] g none = refl
new_name (limit m ∷ gs) (limit n) none = absurd (none (inl refl))
new_name (hash l ∷ gs) (hash k) none = absurd (none (inl refl))
new_name (related s ∷ gs) (related r) none = absurd (none (inl refl))
new_name (as_map ∷ gs) as_map none = absurd (none (inl refl))
new_name (as_trig ∷ gs) as_trig none = absurd (none (inl refl))
new_name (base j ∷ gs) (base i) none = absurd (none (inl refl))
new_name (h ∷ gs) g none = new_name gs g (λ i. none (inr i))

-- what a new option adds to those before it
chosen_by-push : (given : List Given) (g : Given) → IsNew (chosen_by given) g → chosen_by (given ++ g ∷ []) ≡ with_option (chosen_by given) g
chosen_by-push [] (limit n) new = refl
chosen_by-push [] g new = refl
chosen_by-push (limit m ∷ gs) (limit n) new = cc
chosen_by-push (hash l ∷ gs) (hash k) new = cc
chosen_by-push (related s ∷ gs) (related r) new = cc
chosen_by-push (as_map ∷ gs) as_map new = absurd (true≢false new)
chosen_by-push (as_trig ∷ gs) as_trig new = absurd (true≢false new)
chosen_by-push (base j ∷ gs) (base i) new = cc
chosen_by-push (h ∷ gs) g new = ap (λ c. with_option c h) (chosen_by-push gs g new)

distinct_before : (given more : List Given) (g : Given) → AreDistinct (map option_name (given ++ g ∷ more)) → ¬ (In (option_name g) (map option_name given))
distinct_before [] more g d i = i
distinct_before (h ∷ hs) more g d (inl e) = d.0 (subst (λ n. In n (map option_name (hs ++ g ∷ more))) e (In-map option_name (hs ++ g ∷ more) g (In-append_right hs (g ∷ more) g (inl refl))))
distinct_before (h ∷ hs) more g d (inr i) = distinct_before hs more g d.1 i

distinct_push : (given : List Given) (g : Given) → AreDistinct (map option_name given) → ¬ (In (option_name g) (map option_name given)) → AreDistinct (map option_name (given ++ g ∷ []))
distinct_push given g d none = subst AreDistinct (sym (map-append option_name given (g ∷ []))) (AreDistinct-push (map option_name given) (option_name g) d none)

-- ---- one option after the other

flat_map-push : (given : List Given) (g : Given) (rest : List Text) → flat_map spelled_option (given ++ g ∷ []) ++ rest ≡ flat_map spelled_option given ++ (spelled_option g ++ rest)
flat_map-push [] g rest = ap (λ ws. ws ++ rest) (append-nil (spelled_option g))
flat_map-push (h ∷ hs) g rest = spelled_first h (hs ++ g ∷ []) rest ∙ (ap (λ ws. spelled_option h ++ ws) (flat_map-push hs g rest) ∙ sym (spelled_first h hs (spelled_option g ++ rest)))

good_push : (given : List Given) (g : Given) → ((h : Given) → In h given → HasGoodValue h) → HasGoodValue g → (h : Given) → In h (given ++ g ∷ []) → HasGoodValue h
good_push given g all one h i = elim (In-append given (g ∷ []) h i) [ inl j ↦ all h j | inr j ↦ last j ]
  where
    last : In h (g ∷ []) → HasGoodValue h
    last (inl e) = subst HasGoodValue (sym e) one
    last (inr j) = absurd j

-- the options that were read are these, and these words follow them
pub record HasRead (words : List Text) (options : Chosen) (rest : List Text) : Type 0 where
  pub given : List Given
  pub begins : BeginsWithOptions words given rest
  pub chosen_is : options ≡ chosen_by given

pub has_read-none : (words : List Text) → HasRead words (chosen_by []) words
has_read-none words = record { given = []; begins = record { spelled = refl; once = tt; good = λ g i. absurd i }; chosen_is = refl }

pub has_read-more : (words : List Text) (options new : Chosen) (rest behind : List Text) → HasRead words options rest → Reads options rest new behind → HasRead words new behind
has_read-more words options new rest behind r a =
    let g = a.given in
    let fresh : IsNew (chosen_by r.given) g = subst (λ o. IsNew o g) r.chosen_is a.may.new in
    record {
      given = r.given ++ g ∷ [];
      begins = record {
        spelled = r.begins.spelled ∙ (ap (λ ws. flat_map spelled_option r.given ++ ws) a.may.spelled ∙ sym (flat_map-push r.given g behind));
        once = distinct_push r.given g r.begins.once (name_there r.given g fresh);
        good = good_push r.given g r.begins.good a.may.good;
      };
      chosen_is = a.new_is ∙ ap (λ o. with_option o g) r.chosen_is ∙ sym (chosen_by-push r.given g fresh);
    }

-- an option's name is next, and the words begin with no option that may come next
pub no_options : (words : List Text) (options : Chosen) (rest : List Text) (name : OptionName) → HasRead words options rest → BeginsWithName rest name
    → ((g : Given) (more : List Text) → ¬ (MayRead options g rest more)) → AreNoOptions words
no_options words options [] name r b none other more not c = absurd b
no_options words options (w ∷ ws) name r b none other more not c =
    let g = goes_on r.given other (w ∷ ws) more not (sym r.begins.spelled ∙ c.spelled) in
    next g.behind g.other_is g.rest_is
  where
    next : (behind : List Given) → other ≡ r.given ++ behind → w ∷ ws ≡ flat_map spelled_option behind ++ more → ⊥
    next [] o e = subst BeginsNoOption (sym e) not name b
    next (g ∷ gs) o e = none g (flat_map spelled_option gs ++ more) (record {
      spelled = e ∙ spelled_first g gs more;
      good = c.good g (subst (λ l. In g l) (sym o) (In-append_right r.given (g ∷ gs) g (inl refl)));
      new = subst (λ p. IsNew p g) (sym r.chosen_is) (new_name r.given g (distinct_before r.given gs g (subst (λ l. AreDistinct (map option_name l)) o c.once)));
    })

-- ---- the words of one option

-- the option's words are in front of the rest
pub reads-front : (old new : Chosen) (words front rest : List Text) → Adds old new front → words ≡ front ++ rest → Reads old words new rest
reads-front old new words front rest a e =
    record { given = a.given; may = record { spelled = e ∙ ap (λ ws. ws ++ rest) (sym a.follows.spelled); good = a.follows.good; new = a.follows.new }; new_is = a.new_is }

-- an option that the words begin with has the name that they begin with
read_name : (options : Chosen) (name : OptionName) (g : Given) (words more : List Text) → BeginsWithName words name → MayRead options g words more → option_name g ≡ name
read_name options name g [] more b m = absurd b
read_name options name g (w ∷ ws) more b m =
    name_word-injective (option_name g) name (sym (head_same w (name_word (option_name g)) ws (option_value g ++ more) m.spelled) ∙ b)

-- the words behind the name are its value and the rest
read_value : (options : Chosen) (g : Given) (w : Text) (ws more : List Text) → MayRead options g (w ∷ ws) more → ws ≡ option_value g ++ more
read_value options g w ws more m = tail_same w (name_word (option_name g)) ws (option_value g ++ more) m.spelled

-- an option that is spelled as a base is one
pub base_only : {A : Type 0} (chosen : Chosen) (value : Text) (o : Option A) → IfNone o ((iri : Text) → ¬ (MayFollow chosen (base iri) (name_word Base ∷ value ∷ [])))
    → IfNone o ((given : Given) → ¬ (MayFollow chosen given (name_word Base ∷ value ∷ [])))
base_only chosen value (Some x) none = tt
base_only chosen value None none = only
  where
    only : (given : Given) → ¬ (MayFollow chosen given (name_word Base ∷ value ∷ []))
    only (base iri) m = none iri m
    only g m =
        let named : option_name g ≡ Base = name_word-injective (option_name g) Base (head_same (name_word (option_name g)) (name_word Base) (option_value g) (value ∷ []) m.spelled) in
        cc
