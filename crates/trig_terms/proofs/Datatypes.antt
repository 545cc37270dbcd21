-- The names that TriG gives by itself are absolute IRIs.
use Rattle.std.proofs.Common.{◌≡◌, ◌<◌, ◌++◌, true, false, not, nat_lt, codes, drop, refl}
use Rattle.std.specs.List.{list_all}
use Rattle.std.proofs.lemmas.Bool.{ltb-true, not-true}
use Rattle.std.proofs.lemmas.Str.{IsUtf8-from_ascii}
use Rattle.std.proofs.lemmas.Str.Ascii.{IsAscii-from_all}
use Rattle.std.proofs.lemmas.List.Elements.{All-weaker}
use Rattle.std.proofs.lemmas.List.Sums.{AllPass-from_list_all}
use Rattle.rdf_terms.proofs.Common.{Text, IsAbsoluteIri, is_excluded, is_scheme_byte}
use Rattle.trig_terms.specs.Meaning.{xsd, rdf}

-- an ASCII text that begins with `http:`, and without excluded characters
http_iri : (rest : Text) → list_all (λ c. not (is_excluded c)) rest ≡ true → list_all (λ c. nat_lt c 128) rest ≡ true → IsAbsoluteIri (codes "http:" ++ rest)
http_iri rest allowed ascii = record {
  has_scheme = record { letter = 104; more = codes "ttp"; rest = rest; spelled = refl; begins = refl; goes_on = AllPass-from_list_all is_scheme_byte (codes "ttp") refl };
  allowed = All-weaker (λ c. not (is_excluded c) ≡ true) (λ c. is_excluded c ≡ false) (λ c. not-true (is_excluded c)) (codes "http:" ++ rest)
      (AllPass-from_list_all (λ c. not (is_excluded c)) (codes "http:" ++ rest) allowed);
  utf8 = IsUtf8-from_ascii (codes "http:" ++ rest) (IsAscii-from_all (codes "http:" ++ rest)
      (All-weaker (λ c. nat_lt c 128 ≡ true) (λ c. c < 128) (λ c. ltb-true c 128) (codes "http:" ++ rest) (AllPass-from_list_all (λ c. nat_lt c 128) (codes "http:" ++ rest) ascii)));
}

pub xsd_valid : (name : Text) → list_all (λ c. not (is_excluded c)) name ≡ true → list_all (λ c. nat_lt c 128) name ≡ true → IsAbsoluteIri (xsd name)
xsd_valid name allowed ascii = http_iri (drop 5 (xsd name)) allowed ascii

pub rdf_valid : (name : Text) → list_all (λ c. not (is_excluded c)) name ≡ true → list_all (λ c. nat_lt c 128) name ≡ true → IsAbsoluteIri (rdf name)
rdf_valid name allowed ascii = http_iri (drop 5 (rdf name)) allowed ascii
