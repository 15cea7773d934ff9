-- A blueprint's layout: of its parts, where they are placed; and a request for one is a request for a design.
use Rattle.std.proofs.Common.{◌≡◌, ℕ, List, Option, Result, Ok, Err, inl, inr, refl, ap}
use Rattle.bt_text.specs.Answers.{UnlessMemory, seen}
use Rattle.bt_parts.specs.declared.hand.Priority.{Priority}
use Rattle.bt_parts.specs.declared.part.Part.{Part}
use Rattle.bt_parts.specs.declared.part.Rect.{Rect}
use Rattle.bt_parts.specs.declared.part.Tier.{Tier}
use Rattle.bt_recover.specs.Placing.{IsPlaced}
use Rattle.bt_model.specs.Requests.{LayoutRequest}
use Rattle.bt_designs.specs.declared.design.Laid.{Laid}
use Rattle.bt_designs.specs.declared.fault.DesignFault.{DesignFault}
use Rattle.bt_designs.specs.declared.fault.DesignFault.TheVariants.{Refused, Memory}
use Rattle.bt_designs.specs.Alone.{IsAlone}
use Rattle.bt_designs.specs.Designs.{IsJsonPreferring, IsJsonText, IsTieredWith, IsTierOf}
use Rattle.bt_designs.specs.Kept.{IsBlueprintRequest}
use Rattle.bt_designs.specs.Requested.{IsLoneRequest, IsPinned, pinned_laid}
use Rattle.bt_designs.specs.Steps.{stopped, went_on}
use Rattle.bt_designs.specs.inner.Drawings.{IsTieredOn}
use Rattle.bt_designs.proofs.InTurns.{weaker, same_value, same_fault, not_both}

-- ---- the layout of parts that are placed is that of the parts

module _ (read : List Part × List Priority) (grid : List Part) (tier : Option Tier) (placed : IsPlaced read.0 (Ok grid)) (is : IsTierOf read.0 tier) where
  tiered_with : (answer : Result Laid DesignFault) → IsTieredOn grid read.1 tier answer → IsTieredWith read answer
  tiered_with answer (stopped fault h e) = stopped fault (went_on grid placed h) e
  tiered_with answer (went_on net h e) = went_on net (went_on grid placed h) (tier, is, e)

  pub tiered : (answer : Result Laid DesignFault) → UnlessMemory Memory (IsTieredOn grid read.1 tier) answer → UnlessMemory Memory (IsTieredWith read) answer
  tiered answer h = weaker Memory (IsTieredOn grid read.1 tier) (IsTieredWith read) answer tiered_with h

-- ---- what a blueprint alone asks for is what a design alone asks for

module _ (bytes : List ℕ) (json : IsJsonText bytes) where
  pub alone_is_pinned : (answer : Result Laid DesignFault) → IsAlone IsJsonPreferring bytes answer → IsAlone IsPinned bytes (seen pinned_laid answer)
  alone_is_pinned (Ok laid) (stopped fault h e) = absurd (not_both laid fault e)
  alone_is_pinned (Ok laid) (went_on found h (text, skips, inl ended)) =
      went_on (pinned_laid found.0, found.1) (inl (json, went_on found h refl)) (text, skips, inl (ended.0, ap (seen pinned_laid) ended.1))
  alone_is_pinned (Ok laid) (went_on found h (text, skips, inr (some, r, at, e))) = absurd (not_both laid (Refused r) e)
  alone_is_pinned (Err fault) (stopped other h e) = stopped other (inl (json, stopped other h refl)) (ap Err (same_fault fault other e))
  alone_is_pinned (Err fault) (went_on found h (text, skips, inl ended)) = absurd (not_both found.0 fault (let e = ended.1 in cc))
  alone_is_pinned (Err fault) (went_on found h (text, skips, inr (some, r, at, e))) =
      went_on (pinned_laid found.0, found.1) (inl (json, went_on found h refl)) (text, skips, inr (some, r, at, ap Err (same_fault fault (Refused r) e)))

  pub blueprint_is_lone : (rect : Rect) (tier : Option Tier) (answer : Result LayoutRequest DesignFault) → IsBlueprintRequest rect tier bytes answer → IsLoneRequest rect tier bytes answer
  blueprint_is_lone rect tier answer (stopped fault h e) = stopped fault (alone_is_pinned (Err fault) h) e
  blueprint_is_lone rect tier answer (went_on laid h k) = went_on (pinned_laid laid) (alone_is_pinned (Ok laid) h) k
