-- What the other ends of pieces tell of givers and takers.
use Rattle.std.proofs.Common.{◌≡◌, ℕ, ◌<◌, List, length, Option, Some, None, sym, ◌∙◌, inl, inr, ⊎_elim}
use Rattle.std.specs.Option.{MatchOption, IfSome}
use Rattle.std.proofs.lemmas.Option.{none-some, slice_get_within}
use Rattle.bt_parts.specs.declared.part.Kind.TheVariants.{Entrance, Exit}
use Rattle.bt_parts.specs.declared.part.Part.{Part}
use Rattle.bt_parts.specs.Layouts.{HasPart}
use Rattle.bt_recover.specs.Pairing.{ArePartners, partner_of}
use Rattle.bt_model.specs.Handing.{Hands}
use Rattle.bt_model.specs.Chains.{IsOutput}
use Rattle.bt_model.proofs.HandLaws.{pair_enters, pair_leaves, exit_unfed}

-- the giver of an exit
pub exit_giver : (parts : List Part) (partners : List (Option ℕ)) (i : ℕ) (part : Part) (o : Option ℕ) → HasPart parts i part → part.kind ≡ Exit
    → ArePartners parts partners → o ≡ partner_of partners i → MatchOption o ((p : ℕ) → Hands parts p i → ⊥) (λ p. Hands parts p i)
exit_giver parts partners i part None is_i leaves are e = λ p hands. ⊎_elim
    (λ pair. none-some p (e ∙ (are.other_end i p).1 (inr pair)))
    (λ feeds. exit_unfed parts p i part is_i leaves feeds) hands
exit_giver parts partners i part (Some p) is_i leaves are e =
    ⊎_elim (λ enters. let a = leaves in let b = pair_enters parts i p part is_i enters in absurd (cc)) (λ pair. inl pair)
    ((are.other_end i p).0 (sym e))

-- the other end of a piece is a part
pub partner_within : (parts : List Part) (partners : List (Option ℕ)) (i : ℕ) (o : Option ℕ) → ArePartners parts partners → o ≡ partner_of partners i
    → IfSome o (λ p. p < length parts)
partner_within parts partners i None are e = tt
partner_within parts partners i (Some p) are e =
    ⊎_elim (λ pair. slice_get_within parts p pair.exit pair.is_b) (λ pair. slice_get_within parts p pair.entrance pair.is_a)
    ((are.other_end i p).0 (sym e))

-- what an entrance hands to
pub entrance_taker : (parts : List Part) (partners : List (Option ℕ)) (i : ℕ) (part : Part) (o : Option ℕ) → HasPart parts i part → part.kind ≡ Entrance
    → ArePartners parts partners → o ≡ partner_of partners i → MatchOption o (IsOutput parts i) (Hands parts i)
entrance_taker parts partners i part None is_i enters are e = absurd ((are.no_piece i).0 (sym e) (part, is_i, inl enters))
entrance_taker parts partners i part (Some j) is_i enters are e =
    ⊎_elim (λ pair. inl pair) (λ leaves. let a = enters in let b = pair_leaves parts j i part is_i leaves in absurd (cc))
    ((are.other_end i j).0 (sym e))
