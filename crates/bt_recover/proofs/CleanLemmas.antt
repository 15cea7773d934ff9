-- What makes a layout clean.
use Rattle.std.proofs.Common.{◌≡◌, ℕ, List, Option, Some, None, inl, inr, refl, sym, ◌∙◌}
use Rattle.std.specs.Prelude.{Err}
use Rattle.std.proofs.lemmas.Option.{same_Some}
use Rattle.bt_text.specs.Answers.{UnlessMemory}
use Rattle.bt_parts.specs.declared.part.Part.{Part}
use Rattle.bt_parts.specs.Layouts.{IsWellPlaced, IsPieceAt}
use Rattle.bt_recover.specs.declared.pairing.PairFault.{PairFault}
use Rattle.bt_recover.specs.declared.pairing.PairFault.TheVariants.{Unpaired, Memory}
use Rattle.bt_recover.specs.Pairing.{ArePartners, partner_of, ArePairedAs}
use Rattle.bt_model.specs.Clean.{IsPaired, IsSideLoaded, IsBlocked, IsOnRing, IsClean}
use Rattle.bt_model.specs.Orderly.{Never, IsOrderly}
use Rattle.bt_recover.specs.inner.Refused.{IsRefused, fault_of}

one_pair : (parts : List Part) (partners : List (Option ℕ)) → ArePartners parts partners → (i : ℕ) → IsPieceAt parts i → (o : Option ℕ) → partner_of partners i ≡ o → IsPaired parts i
one_pair parts partners are i piece None e = absurd ((are.no_piece i).0 e piece)
one_pair parts partners are i piece (Some j) e = record {
  other = j;
  paired = (are.other_end i j).0 e;
  no_other = λ k paired. same_Some k j (sym ((are.other_end i k).1 paired) ∙ e);
}

-- with a partner for each, each underground piece is in one pair
pub all_paired : (parts : List Part) (partners : List (Option ℕ)) → ArePartners parts partners → (i : ℕ) → IsPieceAt parts i → IsPaired parts i
all_paired parts partners are i piece = one_pair parts partners are i piece (partner_of partners i) refl

pub orderly : (parts : List Part) (partners : List (Option ℕ)) → IsWellPlaced parts → ArePartners parts partners → Never (IsSideLoaded parts) → Never (IsBlocked parts) → IsOrderly parts
orderly parts partners placed are no_side_load no_blocked = record {
  well_placed = placed;
  paired = all_paired parts partners are;
  no_side_load = no_side_load;
  no_blocked = no_blocked;
}

pub clean : (parts : List Part) → IsOrderly parts → Never (IsOnRing parts) → IsClean parts
clean parts is no_ring = record {
  well_placed = is.well_placed;
  paired = is.paired;
  no_side_load = is.no_side_load;
  no_blocked = is.no_blocked;
  no_ring = no_ring;
}

pub pair_refused : (parts : List Part) (fault : PairFault) → UnlessMemory Memory (ArePairedAs parts) (Err fault) → IsRefused parts (fault_of fault)
pair_refused parts (Unpaired i) (inl first) = inl (first.unpaired, first.least)
pair_refused parts (Unpaired i) (inr memory) = absurd (cc)
pair_refused parts Memory (inl none) = absurd none
pair_refused parts Memory (inr memory) = inr refl
