-- Branches: the ways in which the next open port of a splitter is joined.
use Rattle.std.specs.Prelude.{◌≡◌, ◌≢◌, ◌↔◌, ⊤, ℕ, ◌<◌, ◌≤◌, ◌==◌, ◌⊎◌, Bool, true, false, [], ◌∷◌, ◌++◌, length, Option, Some, None, if◌then◌else◌}
use Rattle.bt_fewest.specs.Partial.{Partial, Join, Side, Outs, Ins, Branch, IsJoined, IsTouched, class_in, open_outs, open_ins, seen_from}

-- how many ports of a splitter are open on a side
abbrev pub open_ports : Side → Partial → ℕ → ℕ
open_ports side p s = open_outs (seen_from side p) s

-- a branch may choose the splitter: it has open ports on that side, and no branch goes on
pub record MayChoose (p : Partial) (side : Side) (s : ℕ) : Type 0 where
  pub splitter : s < length p.classes
  pub has_open : 0 < open_ports side p s
  pub none_goes_on : p.branch ≡ None

-- the partial network in which a branch chose the splitter
abbrev pub choosing : Partial → Side → ℕ → Partial
choosing p side s = record p { chosen = s ∷ p.chosen; branch = Some (record { side = side; splitter = s; first = None }) }

-- the splitter is the first one of its class that isn't touched
pub record IsFirstUntouched (p : Partial) (t : ℕ) : Type 0 where
  pub splitter : t < length p.classes
  pub untouched : IsTouched p t → ⊥
  pub first : (r : ℕ) → r < t → (class_in p r).number ≡ (class_in p t).number → IsTouched p r

-- an out port of s may be joined to t: to a touched splitter that isn't s and isn't joined from s, or to the first
-- untouched one of a class; and t has an open in port
pub record MayJoin (p : Partial) (s t : ℕ) : Type 0 where
  pub splitter : t < length p.classes
  pub other : t ≢ s
  pub once : IsJoined p s t → ⊥
  pub has_open : 0 < open_ins p t
  pub touched : IsTouched p t ⊎ IsFirstUntouched p t

-- t may follow the branch's first way: where that was to an untouched splitter, t is one too, of no lower class; else t
-- is no touched splitter of a lower number
abbrev pub MayFollow : Partial → Option (ℕ × Bool) → ℕ → Type 0
MayFollow p None t = ⊤
MayFollow p (Some (first, false)) t = IsFirstUntouched p t × ((class_in p first).number ≤ (class_in p t).number)
MayFollow p (Some (first, true)) t = IsTouched p t → first ≤ t

-- the branch that goes on may join the next port of its splitter to t, on its side
abbrev pub IsWay : Partial → Branch → ℕ → Type 0
IsWay p branch t = MayJoin (seen_from branch.side p) branch.splitter t × MayFollow p branch.first t

-- the branch's join to t
abbrev pub join_by : Branch → ℕ → Join
join_by branch t = on branch.side
  where
    on : Side → Join
    on Outs = record { from = branch.splitter; to = t }
    on Ins = record { from = t; to = branch.splitter }

-- the branch after it joined a port to t, which was touched before or wasn't, with so many open ports left: it goes on
-- while there are any
abbrev pub going_on : Branch → ℕ → Bool → ℕ → Option Branch
going_on branch t was_touched left = if left == 0 then None else Some (record branch { first = Some (t, was_touched) })

-- with one join more, and this branch
abbrev pub with_join : Partial → Join → Option Branch → Partial
with_join p join branch = record p { joins = p.joins ++ join ∷ []; branch = branch }

-- the branch of a partial network that goes on joins the next port to t, which gives this one
pub record Joins (p : Partial) (t : ℕ) (q : Partial) : Type 0 where
  pub branch : Branch
  pub goes_on : p.branch ≡ Some branch
  pub way : IsWay p branch t
  pub was_touched : Bool
  pub touched : (was_touched ≡ true) ↔ IsTouched p t
  pub left : ℕ
  pub left_is : left ≡ open_ports branch.side (with_join p (join_by branch t) None) branch.splitter
  pub joined : q ≡ with_join p (join_by branch t) (going_on branch t was_touched left)
