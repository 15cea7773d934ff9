-- What stands alone in bytes, from what stands at their front and what is refused behind it.
use Rattle.std.proofs.Common.{◌≡◌, ℕ, List, [], Result, Ok, Err, length, drop, inl, inr, refl, ap, sym, subst, ◌∙◌, arith}
use Rattle.std.specs.Prelude.{Some, None}
use Rattle.bt_text.specs.Answers.{UnlessMemory, HasOneAnswer}
use Rattle.bt_designs.specs.declared.fault.DesignFault.{DesignFault}
use Rattle.bt_designs.specs.declared.fault.DesignFault.TheVariants.{Refused, Memory}
use Rattle.bt_designs.specs.declared.refusal.Refusal.{Refusal}
use Rattle.bt_designs.specs.Alone.{IsAlone, IsEnded, IsRefusedAt}
use Rattle.bt_designs.specs.inner.Behind.{IsBehind}
use Rattle.bt_designs.specs.Steps.{stopped, went_on}
use Rattle.bt_designs.proofs.Blanks.{one_rest}
use Rattle.bt_designs.proofs.InTurns.{one_in_turn}

module _ {X : Type 0} (IsFront : List ℕ → Result (X × ℕ) DesignFault → Type 0) (bytes : List ℕ) where
  -- what nothing but blanks follows stands alone
  pub stands_alone : (found : X × ℕ) → IsFront bytes (Ok found) → IsBehind bytes found.1 None → IsAlone IsFront bytes (Ok found.0)
  stands_alone found h k = went_on found h ([], k, inl (refl, refl))

  -- and else what follows is refused
  pub refused_alone : (found : X × ℕ) (r : Refusal) → IsFront bytes (Ok found) → IsBehind bytes found.1 (Some r) → UnlessMemory Memory (IsAlone IsFront bytes) (Err (Refused r))
  refused_alone found r h k = inl (went_on found h (k.0, k.1, inr (k.2, r, k.3, refl)))

  -- where nothing stands at the front, that is told
  pub faulty_alone : (fault : DesignFault) → UnlessMemory Memory (IsFront bytes) (Err fault) → UnlessMemory Memory (IsAlone IsFront bytes) (Err fault)
  faulty_alone fault (inl h) = inl (stopped fault h refl)
  faulty_alone fault (inr m) = inr m

-- ---- one answer

one_refused_at : (bytes : List ℕ) (at : ℕ) (r s : Refusal) → IsRefusedAt bytes at r → IsRefusedAt bytes at s → r ≡ s
one_refused_at bytes at r s (inl h) (inl k) = h.1 ∙ sym k.1
one_refused_at bytes at r s (inl h) (inr k) = absurd (k.0 h.0)
one_refused_at bytes at r s (inr h) (inl k) = absurd (h.0 k.0)
one_refused_at bytes at r s (inr h) (inr k) = h.1 ∙ sym k.1

one_ended : {X : Type 0} (bytes : List ℕ) (found : X) (text : List ℕ) → HasOneAnswer (IsEnded bytes found text)
one_ended bytes found text a b (inl h) (inl k) = h.1 ∙ sym k.1
one_ended bytes found text a b (inl h) (inr k) = absurd (omega (arith, ap length h.0, k.0))
one_ended bytes found text a b (inr h) (inl k) = absurd (omega (arith, ap length k.0, h.0))
one_ended bytes found text a b (inr h) (inr k) =
    h.3 ∙ ap (λ r. Err (Refused r)) (one_refused_at bytes _ h.1 k.1 h.2 k.2) ∙ sym k.3

-- where one thing stands at the front of bytes, or one refusal, one thing stands alone in them
pub one_alone : {X : Type 0} (IsFront : List ℕ → Result (X × ℕ) DesignFault → Type 0) (bytes : List ℕ) → HasOneAnswer (IsFront bytes) → HasOneAnswer (IsAlone IsFront bytes)
one_alone IsFront bytes once = one_in_turn (IsFront bytes) Err _ once
    (λ found a b h k. one_ended bytes found.0 k.0 a b
    (subst (λ text. IsEnded bytes found.0 text a) (one_rest (drop found.1 bytes) h.0 k.0 h.1 k.1) h.2) k.2)
