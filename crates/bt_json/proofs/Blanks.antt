-- Between tokens blanks leave reading as it is, and the first item of a list begins as one behind a comma does.
use Rattle.std.proofs.Common.{◌≡◌, ◌≢◌, ℕ, Bool, List, [], ◌∷◌, refl, ap, ◌∙◌}
use Rattle.bt_json.specs.Json.{Json}
use Rattle.bt_json.specs.Places.{Frame, in_list, in_object}
use Rattle.bt_json.specs.inner.Reading.{go, step, due, opened_list, behind, opened_object, name_due, colon_due, step_due, step_opened_list, step_behind, step_opened_object, step_name_due, step_colon_due}
use Rattle.bt_json.specs.inner.Running.{SkipsBlanks}
use Rattle.bt_json.specs.declared.kind.Kind.{Kind}
use Rattle.bt_json.specs.declared.kind.Kind.TheVariants.{Blank, ListCloses}
use Rattle.bt_json.proofs.ByteKinds.{blank-kind}

pub skips_due : (strict : Bool) (k : List Frame) → SkipsBlanks strict (due k)
unfolding step
skips_due strict k = record { skips = λ at b e. ap (step_due strict at k b) (blank-kind b e) }

pub skips_opened_list : (strict : Bool) (k : List Frame) → SkipsBlanks strict (opened_list k)
unfolding step
skips_opened_list strict k = record { skips = λ at b e. ap (step_opened_list strict at k b) (blank-kind b e) }

pub behind_blank : (at : ℕ) (v : Json) (f : Frame) (k : List Frame) → step_behind at v f k Blank ≡ go (behind v f k)
behind_blank at v (in_list vs) k = refl
behind_blank at v (in_object names vs) k = refl

pub skips_behind : (strict : Bool) (v : Json) (f : Frame) (k : List Frame) → SkipsBlanks strict (behind v f k)
unfolding step
skips_behind strict v f k = record { skips = λ at b e. ap (step_behind at v f k) (blank-kind b e) ∙ behind_blank at v f k }

pub skips_opened_object : (strict : Bool) (k : List Frame) → SkipsBlanks strict (opened_object k)
unfolding step
skips_opened_object strict k = record { skips = λ at b e. ap (step_opened_object at k) (blank-kind b e) }

pub skips_name_due : (strict : Bool) (names : List (List ℕ)) (vs : List Json) (k : List Frame) → SkipsBlanks strict (name_due names vs k)
unfolding step
skips_name_due strict names vs k = record { skips = λ at b e. ap (step_name_due at names vs k) (blank-kind b e) }

pub skips_colon_due : (strict : Bool) (names : List (List ℕ)) (vs : List Json) (n : List ℕ) (k : List Frame) → SkipsBlanks strict (colon_due names vs n k)
unfolding step
skips_colon_due strict names vs n k = record { skips = λ at b e. ap (step_colon_due at names vs n k) (blank-kind b e) }

-- what is neither a blank nor the closing bracket begins an item
pub opened_other : (strict : Bool) (at : ℕ) (k : List Frame) (b : ℕ) (kind : Kind) → kind ≢ Blank → kind ≢ ListCloses → step_opened_list strict at k b kind ≡ step_due strict at (in_list [] ∷ k) b kind
opened_other strict at k b Blank n m = absurd (n refl)
opened_other strict at k b ListCloses n m = absurd (m refl)
opened_other strict at k b kind n m = refl
