-- A file that is read in several calls.
use Rattle.std.proofs.Common.{◌≡◌, ℕ, ◌+◌, ◌<◌, ◌≤◌, List, [], ◌∷◌, ◌++◌, Option, Some, None, IfSome, Result, Ok, Err, IfOk, IfErr, length, length-append, take, refl, sym, ap, subst, ◌∙◌, append-nil, arith}
use Rattle.std.proofs.lemmas.List.{take_all, take-append-le}
use Rattle.std.proofs.KnownBytes.{Consumes-trans}
use Rattle.std.specs.Io.KnownBytes.{Consumes, IsAtEnd}
use Rattle.rdf_terms.specs.Document.{Document, statements}
use Rattle.rdfc_cli.specs.Answers.{States, Accepts, FileSeen, IsCause}
use Rattle.rdfc_cli.specs.FileFaults.{IsFed, content_of, IsFileFault, IsTextFault}
use Rattle.rdfc_cli.specs.Words.{Syntax}
use Rattle.rdfc_cli.specs.declared.files.TheConstants.{FILE_LIMIT}
use Rattle.rdfc_cli.specs.declared.files.FileFault.{FileFault}
use Rattle.rdfc_cli.specs.declared.files.FileFault.TheVariants.{Failed, Refused, NoMemory}

-- a started file, of which nothing was read
pub began : (told rest : Option (List ℕ)) (bytes : List ℕ) → rest ≡ told → bytes ≡ [] → Consumes told rest bytes
began None rest bytes r b = tt
began (Some t) rest bytes r b = rw (r, b) refl

-- a file of which a piece more was read
pub grown : (told rest left : Option (List ℕ)) (bytes piece now : List ℕ) → Consumes told rest bytes → Consumes rest left piece → now ≡ bytes ++ piece → Consumes told left now
grown told rest left bytes piece now p q e = rw e (Consumes-trans told rest left bytes piece p q)

-- a file that was read to its end
pub ended : (told rest left : Option (List ℕ)) (bytes piece : List ℕ) → Consumes told rest bytes → Consumes rest left piece → length piece ≡ 0 → IsAtEnd left → IfSome told (λ t. bytes ≡ t)
ended None rest left bytes piece p q n e = tt
ended (Some t) None left bytes piece p q n e = absurd p
ended (Some t) (Some r) None bytes piece p q n e = absurd q
ended (Some t) (Some r) (Some l) bytes [] p q n e = sym (p ∙ ap (λ x. bytes ++ x) (q ∙ e) ∙ append-nil bytes)
ended (Some t) (Some r) (Some l) bytes (b ∷ bs) p q n e = absurd (omega arith)

-- a file of which more than so many bytes were read
pub longer : (told rest : Option (List ℕ)) (bytes : List ℕ) (limit : ℕ) → Consumes told rest bytes → limit < length bytes → IfSome told (λ t. limit < length t)
longer None rest bytes limit p l = tt
longer (Some t) None bytes limit p l = absurd p
longer (Some t) (Some r) bytes limit p l = rw p (omega (arith, length-append bytes r))

module _ {I : Type 0} (Holds : I → List ℕ → Type 0) where
  -- the intake holds what was read of a file so far, which is so many bytes
  pub record HasFed (told rest : Option (List ℕ)) (intake : I) (total : ℕ) : Type 0 where
    pub bytes : List ℕ
    pub consumed : Consumes told rest bytes
    pub holds : Holds intake bytes
    pub counted : total ≡ length bytes

  pub fed_nothing : (told rest : Option (List ℕ)) (intake : I) (total : ℕ) → rest ≡ told → Holds intake [] → total ≡ 0 → HasFed told rest intake total
  fed_nothing told rest intake total r h n = record { bytes = []; consumed = began told rest [] r refl; holds = h; counted = n }

  pub fed_more : (told rest left : Option (List ℕ)) (old new : I) (total now : ℕ) (piece : List ℕ) → HasFed told rest old total → Consumes rest left piece
      → ((bytes : List ℕ) → Holds old bytes → Holds new (bytes ++ piece)) → now ≡ total + length piece → HasFed told left new now
  fed_more told rest left old new total now piece fed consumed feeds n = record {
    bytes = fed.bytes ++ piece;
    consumed = grown told rest left fed.bytes piece (fed.bytes ++ piece) fed.consumed consumed refl;
    holds = feeds fed.bytes fed.holds;
    counted = n ∙ ap (λ k. k + length piece) fed.counted ∙ sym (length-append fed.bytes piece);
  }

  pub fed_whole : (told rest left : Option (List ℕ)) (intake : I) (total : ℕ) (piece : List ℕ) → HasFed told rest intake total → Consumes rest left piece → length piece ≡ 0 → IsAtEnd left
      → total ≤ FILE_LIMIT → IsFed Holds told intake
  fed_whole told rest left intake total piece fed consumed none at_end within = record {
    bytes = fed.bytes;
    whole = ended told rest left fed.bytes piece fed.consumed consumed none at_end;
    within = omega (arith, fed.counted);
    holds = fed.holds;
  }

-- what the bytes that were read give is what the file gives

if_told : (told : Option (List ℕ)) (bytes : List ℕ) (P : List ℕ → Type 0) → IfSome told (λ all. bytes ≡ all) → P bytes → IfSome told P
if_told None bytes P h p = tt
if_told (Some all) bytes P h p = subst P h p

pub ok_as_told : {T E : Type 0} (told : Option (List ℕ)) (bytes : List ℕ) (P : List ℕ → T → Type 0) → IfSome told (λ all. bytes ≡ all) → (r : Result T E) → IfOk r (P bytes)
    → IfOk r (λ x. IfSome told (λ all. P all x))
ok_as_told told bytes P whole (Ok x) h = if_told told bytes (λ all. P all x) whole h
ok_as_told told bytes P whole (Err e) h = tt

pub fault_as_told : {T : Type 0} (file : FileSeen) (bytes : List ℕ) → IfSome file.told (λ all. bytes ≡ all) → (r : Result T FileFault)
    → IfErr r (IsTextFault file.syntax bytes) → IfErr r (IsFileFault file)
fault_as_told file bytes whole (Ok x) h = tt
fault_as_told file bytes whole (Err Failed) h = absurd h
fault_as_told file bytes whole (Err (Refused cause)) h = if_told file.told bytes (λ all. IsCause file.syntax all cause) whole h
fault_as_told file bytes whole (Err NoMemory) h = tt

-- a dataset of a document that is stated, as far as it is told
pub accepted_as_told : (told : Option (List ℕ)) (syntax : Syntax) (parsed : Document) (r : Result Document FileFault) → IfSome told (λ bytes. States syntax bytes parsed.labels (statements parsed))
    → ((bytes : List ℕ) → States syntax bytes parsed.labels (statements parsed) → IfOk r (λ d. Accepts syntax bytes (content_of d)))
    → IfOk r (λ d. IfSome told (λ bytes. Accepts syntax bytes (content_of d)))
accepted_as_told told syntax parsed (Err e) stated accepts = tt
accepted_as_told None syntax parsed (Ok d) stated accepts = tt
accepted_as_told (Some bytes) syntax parsed (Ok d) stated accepts = accepts bytes stated

-- a whole buffer after a write through a slice of it
pub whole : (n : ℕ) (a rest : List ℕ) → length a ≡ n → take n (a ++ rest) ≡ a
whole n a rest e = let l : n ≤ length a = omega arith in let m : length a ≤ n = omega arith in take-append-le n a rest l ∙ take_all n a m
