-- What `check-layout` answers to what `layout` wrote.
use Rattle.std.specs.Prelude.{ℕ, ◌≤◌, List, length, Option, Ok}
use Rattle.bt_parts.specs.declared.part.Rect.{Rect}
use Rattle.bt_parts.specs.declared.part.Tier.{Tier}
use Rattle.bt_log.specs.declared.log.Log.{Log}
use Rattle.bt_print.specs.declared.answer.Answer.TheVariants.{Brief, Nowhere}
use Rattle.bt_print.specs.declared.answer.Brief.TheVariants.{NoLayout}
use Rattle.bt_designs.specs.declared.held.TheConstants.{MOST_CHECKED}
use Rattle.bt_top.specs.LayingOut.{IsLaidOutFrom}
use Rattle.bt_top.specs.NoneCertificates.{IsLayoutChecked}
use Rattle.bt_top.specs.Rechecking.{followed_by}

-- where `layout` finds that a request has no layout, and the request and what shows it aren't more than `check-layout`
-- reads, it is right for that to say so to them, with the same grid and tier
abbrev pub NoneIsChecked : Type 0
NoneIsChecked = (rect : Rect) (tier : Option Tier) (learnt : ℕ) (bytes : List ℕ) (log : Log) → IsLaidOutFrom rect tier learnt bytes (Ok (Nowhere log))
    → length (followed_by bytes (Nowhere log)) ≤ MOST_CHECKED → IsLayoutChecked rect tier (followed_by bytes (Nowhere log)) (Ok (Brief NoLayout))
