-- What permission leaves, without the term.
use Rattle.std.specs.Prelude.{Bool, true, false, List, [], ◌∷◌, ◌≡◌, ◌⊎◌, not, Option, Some, None}
use Rattle.msc_base.specs.Patterns.{seq}
use Rattle.chart_term.specs.NormalForms.{begun, flat, has_gap, is_nil, some_kept}
use Rattle.chart_term.specs.Terms.{Tree, Nil, Part}
use Rattle.term_permission.specs.RowRests.{RowRest}
use Rattle.term_permission.specs.declared.remnant.Remnant.{Remnant}
use Rattle.term_permission.specs.declared.remnant.Remnant.TheVariants as remnant
use Rattle.term_permission.specs.declared.remnant.RowTally.{RowTally}
use Rattle.term_laws.specs.Normality.{IsNotNil}

-- permission leaves more than the empty pattern
abbrev pub is_full : Option Tree → Bool
is_full None = false
is_full (Some x) = not (is_nil (Some x))

-- permission leaves so much
abbrev pub RemnantSays : Remnant → Option Tree → Type 0
RemnantSays remnant.Fails o = o ≡ None
RemnantSays remnant.Empty o = (some_kept o ≡ true) × (is_full o ≡ false)
RemnantSays remnant.More o = is_full o ≡ true

-- so much is left of the parts of a join, opened
abbrev pub SaysParts : Remnant → Option (List Tree) → Type 0
SaysParts remnant.Fails o = o ≡ None
SaysParts remnant.Empty o = o ≡ Some []
SaysParts remnant.More o = (y : Tree) × (ys : List Tree) × (o ≡ Some (y ∷ ys)) × IsNotNil y

-- what is left of two parts of a join
abbrev pub both : Remnant → Remnant → Remnant
both remnant.Fails q = remnant.Fails
both remnant.Empty q = q
both remnant.More remnant.Fails = remnant.Fails
both remnant.More remnant.Empty = remnant.More
both remnant.More remnant.More = remnant.More

-- what is left of two parts of a choice
abbrev pub either : Remnant → Remnant → Remnant
either remnant.Fails q = q
either remnant.Empty remnant.Fails = remnant.Empty
either remnant.Empty remnant.Empty = remnant.Empty
either remnant.Empty remnant.More = remnant.More
either remnant.More q = remnant.More

-- parts that stay as they are, none of which is Nil
abbrev pub stays : List Part → Remnant
stays [] = remnant.Empty
stays (t ∷ ps) = remnant.More

-- all are Nil
abbrev pub AreNil : List Tree → Type 0
AreNil [] = Unit {0}
AreNil (x ∷ xs) = (x ≡ Nil) × AreNil xs

-- one isn't Nil
abbrev pub SomeFull : List Tree → Type 0
SomeFull [] = ⊥
SomeFull (x ∷ xs) = IsNotNil x ⊎ SomeFull xs

-- so much is left of the parts of a choice
abbrev pub SaysSome : Remnant → List Tree → Type 0
SaysSome remnant.Fails ks = ks ≡ []
SaysSome remnant.Empty ks = (xs : List Tree) × (ks ≡ Nil ∷ xs) × AreNil xs
SaysSome remnant.More ks = SomeFull ks

-- so much is known of the end of a row
pub record Tallies (t : RowTally) (r : RowRest) : Type 0 where
  pub gap : t.gap ≡ has_gap r.parts
  pub free : t.free ≡ r.free
  pub turns : SaysParts t.turns (Some (flat seq (begun r.parts)))

-- the same, where no begun turn fails
abbrev pub TalliesSome : Option RowTally → Option RowRest → Type 0
TalliesSome None o = o ≡ None
TalliesSome (Some t) o = (r : RowRest) × (o ≡ Some r) × Tallies t r
