-- What a run has counted says all of what it answers.
use Rattle.std.proofs.Common.{◌≡◌, ℕ, List, ◌∷◌, Option, Some, None, MatchOption, inl, refl, sym, ap, ◌∙◌, subst, arith}
use Rattle.rdf_terms.proofs.Common.{Dataset, IsValid, In, In-append_right}
use Rattle.canonical_writer.specs.Determined.{ListsNodes}
use Rattle.canon_model.specs.Allowed.{IsCanonicalList, canonical_form}
use Rattle.canon_model.specs.CountedRun.{Tie, counted_run}
use Rattle.canon_model.specs.Hashing.{Hashing}
use Rattle.canon_model.specs.JoinedTies.{IsFirstUnjoined, JoinedCount, ties_of_run}
use Rattle.canon_model.specs.Output.{IsOutputOf, units_of}
use Rattle.canon_model.specs.Ties.{IsTie}
use Rattle.canon_model.proofs.CanonicalLists.{canonical_lists_are_complete}
use Rattle.canon_model.proofs.CountedAllowed.{counted_run_is_allowed}
use Rattle.canon_model.proofs.OneOutput.{one_output}
use Rattle.canon_model.proofs.RunTies.{ties_of_run_are_tied}
use Rattle.canon_model.proofs.TieSymmetry.{joined_where_symmetric}
use Rattle.ndegree_hash.specs.Log.{IsFirstOf, LoggedTies, LogsAll, tie_of}
use Rattle.ndegree_hash.specs.declared.tie.Tie.{Tie as CarriedTie}
use Rattle.canon_core.specs.Canonical.{IsCanon, IsFirstUnsettled, IsUnsettledBy}
use Rattle.canon_core.specs.declared.canon.Canon.{Canon}
use Rattle.canon_core.proofs.TwoOutputs.{shared_output}

module _ (ρ : Hashing) (D : Dataset) (valid : IsValid D) where
  run-allowed : (c : List ℕ) → c ≡ (counted_run ρ D).value → IsCanonicalList ρ D c
  run-allowed c e = subst (IsCanonicalList ρ D) (sym e) (counted_run_is_allowed ρ D valid)

  pub run-lists : (c : List ℕ) → c ≡ (counted_run ρ D).value → ListsNodes D.nodes c
  run-lists c e = let k = canonical_lists_are_complete ρ D valid c (run-allowed c e) in record { distinct = k.1; all = k.0 }

  output_of : (c : List ℕ) (text : List ℕ) → c ≡ (counted_run ρ D).value → text ≡ canonical_form D c → IsOutputOf ρ D text
  output_of c text e t = record {
    valid = valid;
    chosen = t ∙ ap (canonical_form D) e;
    allowed = record { list = c; allowed = run-allowed c e; text_is = t };
    tells = λ ρ' E w out.
        let r = shared_output ρ ρ' D E valid w c out.list (run-allowed c e) out.allowed (sym t ∙ out.text_is) in
        record { relabelling = r.relabelling; carries = r.carries };
  }

  -- ---- the first tie that is not joined

  In-first : (t : Tie) → IsFirstUnjoined D (ties_of_run ρ D) t → In t (ties_of_run ρ D)
  In-first t f = subst (In t) (sym f.ties_are) (In-append_right f.before (t ∷ f.behind) t (inl refl))

  unsettled_by : (t : CarriedTie) → IsFirstUnjoined D (ties_of_run ρ D) (tie_of t) → IsUnsettledBy ρ D t
  unsettled_by t f =
      let tie : IsTie ρ D (tie_of t) = ties_of_run_are_tied ρ D valid (tie_of t) (In-first (tie_of t) f) in
      record {
        first = f;
        tie = tie;
        not_joined = f.not_joined;
        not_carried = λ k. f.not_joined ((joined_where_symmetric ρ D valid (tie_of t).canonical (tie_of t).passed (tie_of t).left (tie_of t).right tie.tied).1 k);
      }

  first_unsettled : (found : Option CarriedTie) → IsFirstOf D (ties_of_run ρ D) found → IsFirstUnsettled ρ D found
  first_unsettled None f = f
  first_unsettled (Some t) f = unsettled_by t f

  from_none : (old new : Option CarriedTie) → old ≡ None → MatchOption old (IsFirstOf D (ties_of_run ρ D) new) (λ t. new ≡ Some t) → IsFirstOf D (ties_of_run ρ D) new
  from_none old new e h = subst (λ o. MatchOption o (IsFirstOf D (ties_of_run ρ D) new) (λ t. new ≡ Some t)) e h

  -- ---- all of it

  pub canon-from_run : (canon : Canon) (old log : LoggedTies) → canon.order ≡ (counted_run ρ D).value → canon.bytes ≡ canonical_form D canon.order → canon.units ≡ units_of ρ D
      → canon.ties ≡ log.total → canon.joined ≡ log.joined → canon.unsettled ≡ log.unsettled → old.total ≡ 0 → old.joined ≡ 0 → old.unsettled ≡ None → LogsAll D (ties_of_run ρ D) old log
      → IsCanon ρ D canon
  canon-from_run canon old log order bytes units ties joined unsettled no_total no_joined no_tie l = record {
    order_is = order;
    order_allowed = run-allowed canon.order order;
    bytes = output_of canon.order canon.bytes order bytes;
    units = units;
    ties = let t = l.total in omega arith;
    joined = let j : l.joined ≡ canon.joined = (let k = l.joined_is in omega arith) in subst (JoinedCount D (ties_of_run ρ D)) j l.count;
    unsettled = subst (IsFirstUnsettled ρ D) (sym unsettled) (first_unsettled log.unsettled (from_none old.unsettled log.unsettled no_tie l.unsettled));
    only = λ settled E iso other out. one_output ρ D valid settled E iso other out ∙ sym (output_of canon.order canon.bytes order bytes).chosen;
  }
