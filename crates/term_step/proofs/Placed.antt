-- Where events of one label have the same instances, nothing behind a part that holds one of them back can happen.
use Rattle.std.specs.Option.{option_map}
use Rattle.std.specs.Prelude.{ℕ, zero, suc, ◌<◌, ◌⊎◌, List, [], ◌∷◌, ◌++◌, ◌≡◌, Option, Some, None, IfSome, IfNone, refl, slice_get, take}
use Rattle.std.proofs.Common.{ap, arith, inl, inr, sym, ◌∙◌, subst}
use Rattle.bit_sets.specs.Blocks.{BlockValue}
use Rattle.msc_base.specs.Patterns.{Mode, seq}
use Rattle.chart_term.specs.NormalForms.{NetPermits, and_then, begun, flat, only}
use Rattle.chart_term.specs.PartLists.{AreTurns}
use Rattle.chart_term.specs.Properties.{Each, EachTurn}
use Rattle.chart_term.specs.Tables.{Tables}
use Rattle.chart_term.specs.TermPatterns.{instances_of}
use Rattle.chart_term.specs.Terms.{TermEvent, Block, has, Tree, Nil, Event, Join, Choice, Tied, Loop, Walk, trees, items, Part, Gap, Turn, parts, row_of}
use Rattle.chart_term.specs.Views.{event_of}
use Rattle.term_step.specs.Children.{child, new_turn, put, row_child}
use Rattle.term_step.specs.Searches.{IsNext, IsTaken}
use Rattle.term_step.specs.Skips.{AreFramesPlaced, ArePlaced, HoldsOne, IsAt, IsHolding, IsMetAt, IsSearchPlaced, IsSkip}
use Rattle.term_step.specs.declared.ascent.Frame.{Frame}
use Rattle.term_step.specs.declared.ascent.Taken.{Taken}
use Rattle.term_step.proofs.Passes.{loop_put_held, row_put_held, skip-behind, skip-none}
use Rattle.term_laws.specs.Permission.{permit, permit_all, permits_of}
use Rattle.term_laws.specs.Placing.{AreEventsPlaced, AreNetsPlaced, HaveOnePlace, IsPlaced}
use Rattle.term_laws.specs.Taking.{IsAfter}
use Rattle.term_laws.specs.Values.{block_of}
use Rattle.term_permission.specs.Lefts.{opened_left}
use Rattle.term_permission.specs.Ready.{IsReady}
use Rattle.term_laws.proofs.EveryPart.{part_out, row_out}
use Rattle.term_laws.proofs.Keeping.{at_some}
use Rattle.term_laws.proofs.Placed.{kept-placed, permit-placed, taken-placed}

-- a child's events are placed as the term's
module _ (places : ℕ → List ℕ) (w : Tables) (nets : AreNetsPlaced places w) where
  abbrev P : Tree → Type 0
  P = AreEventsPlaced places

  each_at : (xs : List Tree) (i : ℕ) (y : Tree) → slice_get xs i ≡ Some y → Each P xs → P y
  each_at [] i y e h = cc
  each_at (x ∷ xs) zero y e h = let q : x ≡ y = cc in subst P q h.0
  each_at (x ∷ xs) (suc i) y e h = each_at xs i y e h.1

  new_some : (hi : Option ℕ) (o : Option Tree) (y : Tree) → new_turn hi o ≡ Some y → o ≡ Some y
  new_some None o y h = h
  new_some (Some zero) o y h = cc
  new_some (Some (suc n)) o y h = h

  turn_placed : (x : Tree) (hi : Option ℕ) (ps : List Part) (i : ℕ) (y : Tree) → P x → EachTurn P ps → row_child (permits_of w) x hi (slice_get ps i) ≡ Some y → P y
  turn_placed x hi [] i y h d e = cc
  turn_placed x hi (Gap c ∷ ps) zero y h d e = at_some P (permit (permits_of w) (only c) x) y (new_some hi (permit (permits_of w) (only c) x) y e) (permit-placed places (permits_of w) (only c) x h)
  turn_placed x hi (Turn z ∷ ps) zero y h d e = let q : z ≡ y = cc in subst P q d.0
  turn_placed x hi (Gap c ∷ ps) (suc i) y h d e = turn_placed x hi ps i y h d e
  turn_placed x hi (Turn z ∷ ps) (suc i) y h d e = turn_placed x hi ps i y h d.1 e

  pub child-placed : (x : Tree) (i : ℕ) (y : Tree) → P x → child (permits_of w) x i ≡ Some y → P y
  child-placed Nil i y h e = cc
  child-placed (Event f) i y h e = cc
  child-placed (Join m xs) i y h e = each_at (items xs) i y e (part_out (IsPlaced places) (λ y q. Unit {0}) (λ y. Unit {0}) (λ n f t. Unit {0}) xs h)
  child-placed (Choice xs) i y h e = each_at (items xs) i y e (part_out (IsPlaced places) (λ y q. Unit {0}) (λ y. Unit {0}) (λ n f t. Unit {0}) xs h)
  child-placed (Tied x q) zero y h e = let p : x ≡ y = cc in subst P p h.0
  child-placed (Tied x q) (suc i) y h e = cc
  child-placed (Loop x lo hi r) i y h e = turn_placed x hi (parts r) i y h.0 (row_out (IsPlaced places) (λ y q. Unit {0}) (λ y. Unit {0}) (λ n f t. Unit {0}) r h.2) e
  child-placed (Walk n f t c) i y h e = kept-placed places w nets n i c y e

  pub child-taken : (y u : Tree) (e : TermEvent) → P y → IsAfter (permits_of w) y e u → IsPlaced places e
  child-taken y u e h a = taken-placed places (permits_of w) (kept-placed places w nets) a h

-- without a part that holds it back nothing is passed over
pub skip-either : (k : NetPermits) (ps : List Part) (from : ℕ) (met : Option Taken) (held : Option BlockValue) (skip : BlockValue) → IfSome held (λ b. IsHolding k ps from met b.instances) → IfSome held (λ c. skip ≡ c) → IfNone held (skip.instances ≡ [])
    → IsSkip k ps from skip.instances
skip-either k ps from met None skip h p q = skip-none k ps from skip.instances q
skip-either k ps from met (Some b) skip h p q = subst (λ (c : BlockValue). IsSkip k ps from c.instances) (sym p) h.skip

module _ (w : Tables) (a : ℕ) (x : Tree) (met : Option Taken) (taken : IfSome met IsTaken) (placed : ArePlaced w a x met) where
  at_some_met : (Q : Taken → Type 0) (t : Taken) → met ≡ Some t → IfSome met Q → Q t
  at_some_met Q t e h = subst (λ (o : Option Taken). IfSome o Q) e h

  -- each event with the label is at the instances of the one that was met
  pub same-instances : (m : Taken) → met ≡ Some m → (y u : Tree) (p : ℕ) (e : TermEvent) → child (permits_of w) x p ≡ Some y → e.label ≡ a → IsAfter (permits_of w) y e u
      → (n : ℕ) → has (instances_of e).instances n ≡ has m.at.instances n
  same-instances m is y u p e g l t n = ap (λ d. has d n) same_places ∙ sym (own.same n)
    where
      own : IsTaken m
      own = at_some_met IsTaken m is taken

      its : IsMetAt placed.places a m
      its = at_some_met (IsMetAt placed.places a) m is placed.met_at

      mine : IsPlaced placed.places e
      mine = child-taken placed.places w placed.nets y u e (child-placed placed.places w placed.nets x p y placed.term g) t

      same_places : (instances_of e).instances ≡ (instances_of (event_of m.event)).instances
      same_places = sym mine ∙ (ap placed.places (l ∙ sym its.1) ∙ its.0)

module _ (w : Tables) (a : ℕ) (x : Tree) (ps : List Part) (from : ℕ) (met : Option Taken) (taken : IfSome met IsTaken) (placed : ArePlaced w a x met) where
  all_at : (c : List ℕ) → IsHolding (permits_of w) ps from met c → (y u : Tree) (p : ℕ) (e : TermEvent) → child (permits_of w) x p ≡ Some y → e.label ≡ a → IsAfter (permits_of w) y e u → IsAt c e
  all_at c h y u p e g l t = λ n i. h.same n ∙ (sym (same-instances w a x met taken placed h.event h.is_met y u p e g l t n) ∙ i)

  pub held-row : (c : List ℕ) → x ≡ Join seq (trees (begun ps)) → AreTurns ps → IsHolding (permits_of w) ps from met c → IsNext w a x from None
  held-row c e turns h = λ p l y g f b u t. ap (λ v. put (permits_of w) f v p u) e ∙ row_put_held (permits_of w) f ps p from u turns l (h.skip.all f (all_at c h y u p f g b t))

  pub held-loop : (body : Tree) (lo : ℕ) (hi : Option ℕ) (c : List ℕ) → x ≡ Loop body lo hi (row_of ps) → IsHolding (permits_of w) ps from met c → IsNext w a x from None
  held-loop body lo hi c e h = λ p l y g f b u t. ap (λ v. put (permits_of w) f v p u) e ∙ loop_put_held (permits_of w) f body lo hi ps p from u l (h.skip.all f (all_at c h y u p f g b t))

-- one of the parts in front holds the event back, where permission fails for all of them
module _ (k : NetPermits) (b : Block) where
  and_none : (o : Option Tree) (p : Option (List Tree)) → and_then o p ≡ None → (o ≡ None) ⊎ (p ≡ None)
  and_none None p e = inl refl
  and_none (Some x) None e = inr refl
  and_none (Some x) (Some ys) e = cc

  all_none : (xs : List Tree) → permit_all k b (trees xs) ≡ None → (i : ℕ) × (z : Tree) × (slice_get xs i ≡ Some z) × (permit k b z ≡ None)
  all_none [] e = cc
  all_none (x ∷ xs) e = elim (and_none (permit k b x) (permit_all k b (trees xs)) e) [
    | inl p ↦ (0, x, refl, p)
    | inr p ↦ let (i, z, at, fails) = all_none xs p in (suc i, z, at, fails)
  ]

  mapped_none : (m : Mode) (o : Option (List Tree)) → option_map (flat m) o ≡ None → o ≡ None
  mapped_none m None e = refl
  mapped_none m (Some xs) e = cc

turn_before : (ps : List Part) (from i : ℕ) (z : Tree) → AreTurns ps → slice_get (begun (take from ps)) i ≡ Some z → (i < from) × (slice_get ps i ≡ Some (Turn z))
turn_before [] zero i z h e = cc
turn_before [] (suc n) i z h e = cc
turn_before (t ∷ ps) zero i z h e = cc
turn_before (Gap d ∷ ps) (suc n) i z h e = cc
turn_before (Turn x ∷ ps) (suc n) zero z h e = let q : x ≡ z = cc in (omega arith, ap (λ v. Some (Turn v)) q)
turn_before (Turn x ∷ ps) (suc n) (suc i) z h e = let r = turn_before ps n i z h e in (omega (arith, r.0), r.1)

turn_ready : (w : Tables) (ps : List Part) (i : ℕ) (z : Tree) → EachTurn (IsReady w) ps → slice_get ps i ≡ Some (Turn z) → IsReady w z
turn_ready w [] i z h e = cc
turn_ready w (Gap c ∷ ps) zero z h e = cc
turn_ready w (Gap c ∷ ps) (suc i) z h e = turn_ready w ps i z h e
turn_ready w (Turn x ∷ ps) zero z h e = let q : x ≡ z = cc in subst (IsReady w) q h.0
turn_ready w (Turn x ∷ ps) (suc i) z h e = turn_ready w ps i z h.1 e

pub front-holds : (w : Tables) (t : Taken) (met : Option Taken) (ps before : List Part) (from : ℕ) → met ≡ Some t → IsTaken t → t.event.also ≡ None → AreTurns ps → EachTurn (IsReady w) ps → before ≡ take from ps
    → opened_left (permits_of w) (block_of t.at) seq (begun before) ≡ None → HoldsOne (permits_of w) ps from met
front-holds w t met ps before from is taken alone turns ready front fails =
    let none = mapped_none (permits_of w) (block_of t.at) seq (permit_all (permits_of w) (block_of t.at) (trees (begun before))) fails in
    let (i, z, at, held) = all_none (permits_of w) (block_of t.at) (begun before) none in
    let (less, there) = turn_before ps from i z turns (ap (λ l. slice_get (begun l) i) (sym front) ∙ at) in (
      t.at.instances,
      record {
        skip = skip-behind w t ps from i z t.at.instances taken alone less there (turn_ready w ps i z ready there) held (λ n. refl);
        event = t;
        is_met = is;
        same = λ n. refl;
      },
    )

-- a search that goes on
module _ (w : Tables) (a : ℕ) where
  pub placed-start : (x : Tree) → HaveOnePlace w x → IsSearchPlaced w a [] x None
  placed-start x h = record { here = record { places = h.places; nets = h.nets; term = h.term; met_at = tt }; frames = tt }

  frames_more : (places : ℕ → List ℕ) (fs : List Frame) (f : Frame) → AreFramesPlaced places fs → AreEventsPlaced places f.parent → AreFramesPlaced places (fs ++ f ∷ [])
  frames_more places [] f h p = (p, tt)
  frames_more places (g ∷ fs) f h p = (h.0, frames_more places fs f h.1 p)

  frames_front : (places : ℕ → List ℕ) (fs : List Frame) (f : Frame) → AreFramesPlaced places (fs ++ f ∷ []) → AreFramesPlaced places fs × AreEventsPlaced places f.parent
  frames_front places [] f h = (tt, h.0)
  frames_front places (g ∷ fs) f h = let r = frames_front places fs f h.1 in ((h.0, r.0), r.1)

  pub placed-down : (fs gs : List Frame) (x y : Tree) (i : ℕ) (met : Option Taken) → IsSearchPlaced w a fs x met → child (permits_of w) x i ≡ Some y → gs ≡ fs ++ record { parent = x; index = i } ∷ [] → IsSearchPlaced w a gs y met
  placed-down fs gs x y i met h c e = record {
    here = record { places = h.here.places; nets = h.here.nets; term = child-placed h.here.places w h.here.nets x i y h.here.term c; met_at = h.here.met_at };
    frames = subst (λ (hs : List Frame). AreFramesPlaced h.here.places hs) (sym e) (frames_more h.here.places fs (record { parent = x; index = i }) h.frames h.here.term);
  }

  pub placed-up : (fs gs : List Frame) (f : Frame) (x : Tree) (met new : Option Taken) → IsSearchPlaced w a fs x met → fs ≡ gs ++ f ∷ [] → ((places : ℕ → List ℕ) → AreEventsPlaced places x → IfSome met (IsMetAt places a) → IfSome new (IsMetAt places a)) → IsSearchPlaced w a gs f.parent new
  placed-up fs gs f x met new h e m =
      let r = frames_front h.here.places gs f (subst (λ (hs : List Frame). AreFramesPlaced h.here.places hs) e h.frames) in
      record { here = record { places = h.here.places; nets = h.here.nets; term = r.1; met_at = m h.here.places h.here.term h.here.met_at }; frames = r.0 }
