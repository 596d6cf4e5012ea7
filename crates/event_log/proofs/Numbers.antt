-- Entries that wait, with their numbers.
use Rattle.std.specs.Prelude.{◌≡◌, ◌++◌, ◌∷◌, [], List, Option, Some, None, IfSome, All, map, length, option_to_list}
use Rattle.std.proofs.Common.{ap, ◌∙◌, subst, arith, drop, refl}
use Rattle.std.proofs.lemmas.List.{map-append}
use Rattle.std.proofs.lemmas.List.Elements.{All-head}

-- one less at the front: the events without their numbers, and the numbers of the one that goes
pub events_behind : {Q E : Type 0} (event_of : Q → E) (o : Option Q) (w v : List Q) → w ≡ option_to_list o ++ v → map event_of w ≡ map event_of (option_to_list o) ++ map event_of v
events_behind event_of o w v is = ap (λ es. map event_of es) is ∙ map-append event_of (option_to_list o) v

pub front_numbered : {Q : Type 0} (P : Q → Type 0) (o : Option Q) (w v : List Q) → w ≡ option_to_list o ++ v → All P w → IfSome o P
front_numbered P None w v is are = tt
front_numbered P (Some e) w v is are = All-head P e v (subst (λ es. All P es) is are)

empty_front : {Q : Type 0} (w : List Q) → w ≡ drop 1 w → w ≡ []
empty_front [] h = refl
empty_front (x ∷ w) h = absurd (omega (arith, ap length h))

-- where no entry was there, none waits
pub nothing_waits : {Q : Type 0} (o : Option Q) (w v : List Q) → o ≡ None → w ≡ option_to_list o ++ v → v ≡ drop 1 w → w ≡ []
nothing_waits None w v e is rest = empty_front w (is ∙ rest)
nothing_waits (Some x) w v e is rest = cc
