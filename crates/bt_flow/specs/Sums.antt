-- The sums that tests form, one addition of fractions after another, and additions that leave 128 bits.
use Rattle.std.specs.Prelude.{◌≡◌, ◌⊎◌, ℕ, Bool, List, [], ◌∷◌, ◌++◌, if◌then◌else◌, pos}
use Rattle.std.specs.List.{AllByRecursion}
use Rattle.bt_frac.specs.Ratio.{Ratio, IsLowest, IsSum, CanAdd, IsWide}
use Rattle.bt_net.specs.declared.network.Edge.{Edge}
use Rattle.bt_net.specs.Network.{Network, leaves, enters}
use Rattle.bt_flow.specs.declared.property.Property.{Property}
use Rattle.bt_flow.specs.declared.property.Property.TheVariants.{Balanced, DrawnEvenly, Unlimited, Full, Fair, DrawnFairly}
use Rattle.bt_flow.specs.declared.judgement.Test.{Test}
use Rattle.bt_flow.specs.declared.judgement.Test.TheVariants as test
use Rattle.bt_flow.specs.States.{Fractions}
use Rattle.bt_flow.specs.Properties.{is_last}

-- the fraction 0
abbrev pub nothing : Ratio
nothing = record { over = pos 0; under = 1 }

-- the exact sum of two fractions, all three in lowest terms, whose numbers fit
pub record AddsTo (a b r : Ratio) : Type 0 where
  pub left : IsLowest a
  pub right : IsLowest b
  pub lowest : IsLowest r
  pub sum : IsSum a b r
  pub fits : CanAdd a b

-- adding these fractions in order to a number leads to another, and every addition fits
abbrev pub RunsTo : Ratio → List Ratio → Ratio → Type 0
RunsTo a [] c = a ≡ c
RunsTo a (b ∷ rest) c = (r : Ratio) × AddsTo a b r × RunsTo r rest c

-- the fractions of the edges that pass a test, in the order of edges
abbrev pub fractions_where : (Edge → Bool) → List Edge → List Ratio → List Ratio
fractions_where p [] flows = []
fractions_where p (e ∷ edges) [] = []
fractions_where p (e ∷ edges) (f ∷ flows) = if p e then f ∷ fractions_where p edges flows else fractions_where p edges flows

-- the sums that the conclusion of a property forms: all output flows, all loads and all rooms
abbrev pub concluding_sums : Property → Network → Fractions → List (List Ratio)
concluding_sums Balanced n t = []
concluding_sums DrawnEvenly n t = []
concluding_sums Unlimited n t = fractions_where is_last n.edges t.flows ∷ t.loads ∷ t.rooms ∷ []
concluding_sums Full n t = fractions_where is_last n.edges t.flows ∷ t.loads ∷ t.rooms ∷ []
concluding_sums Fair n t = []
concluding_sums DrawnFairly n t = []

-- the sums that a test at a place forms, each from 0 on: in flows and then out flows of a splitter, or
-- those of the conclusion
abbrev pub sums_of : Network → Property → Fractions → Test → ℕ → List (List Ratio)
sums_of n p t test.Conserve k = fractions_where (enters k) n.edges t.flows ∷ fractions_where (leaves k) n.edges t.flows ∷ []
sums_of n p t test.Conclusion a = concluding_sums p n t
sums_of n p t u a = []

-- every addition of these sums fits
abbrev pub AllFit : List (List Ratio) → Type 0
AllFit sums = AllByRecursion (λ sum. (whole : Ratio) × RunsTo nothing sum whole) sums

-- in this sum, formed from 0 on, the addition of these two numbers is the first that doesn't fit
pub record IsWideIn (left right : Ratio) (sum : List Ratio) : Type 0 where
  pub front : List Ratio
  pub rest : List Ratio
  pub is_split : sum ≡ front ++ right ∷ rest
  pub runs : RunsTo nothing front left
  pub wide : IsWide left right

-- of these sums, formed in their order, this is the first addition that doesn't fit
abbrev pub IsFirstWide : Ratio → Ratio → List (List Ratio) → Type 0
IsFirstWide left right [] = ⊥
IsFirstWide left right (sum ∷ others) = IsWideIn left right sum ⊎ ((whole : Ratio) × RunsTo nothing sum whole × IsFirstWide left right others)
