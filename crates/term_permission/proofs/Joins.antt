-- What permission leaves of the parts of a join, opened part by part.
use Rattle.std.specs.Option.{option_map}
use Rattle.std.specs.Prelude.{ℕ, zero, suc, ◌+◌, Bool, true, false, List, [], ◌∷◌, ◌++◌, ◌≡◌, ◌||◌, Option, Some, None, refl, take, drop, slice_get, Result, Ok, Err, IfOk}
use Rattle.std.proofs.Common.{ap, sym, ◌∙◌, append_assoc}
use Rattle.msc_base.specs.Patterns.{Mode, seq, par}
use Rattle.chart_term.specs.NormalForms.{NetPermits, and_then, begun, flat, has_gap, open_part}
use Rattle.chart_term.specs.Properties.{Each, EachTurn}
use Rattle.chart_term.specs.Rows.{part_of, parts_of}
use Rattle.chart_term.specs.Terms.{Block, Tree, Nil, Join, trees, Part, Gap, Turn}
use Rattle.chart_term.specs.declared.term.RowPart.{RowPart}
use Rattle.std.proofs.lemmas.List.{map-append, take-map, drop-map}
use Rattle.list_facts.proofs.Reading.{take_step}
use Rattle.chart_term.proofs.Lists.{items-trees}
use Rattle.chart_term.proofs.Turns.{begun-append, gap-append}
use Rattle.term_permission.specs.Lefts.{and_app, opened_left}
use Rattle.term_laws.specs.Normality.{IsPartOf}
use Rattle.term_laws.specs.Permission.{permit, permit_all}
use Rattle.term_laws.proofs.Identity.{flat_same}

-- lists that are joined
pub flat-append : (m : Mode) (xs ys : List Tree) → flat m (xs ++ ys) ≡ flat m xs ++ flat m ys
flat-append m [] ys = refl
flat-append m (x ∷ xs) ys = ap (λ l. open_part m x ++ l) (flat-append m xs ys) ∙ sym (append_assoc (open_part m x) (flat m xs) (flat m ys))

module _ (k : NetPermits) (b : Block) (m : Mode) where
  front_all : (o : Option Tree) (p q : Option (List Tree)) → and_then o (and_app p q) ≡ and_app (and_then o p) q
  front_all None p q = refl
  front_all (Some x) None q = refl
  front_all (Some x) (Some xs) None = refl
  front_all (Some x) (Some xs) (Some ys) = refl

  front_none : (o : Option (List Tree)) → o ≡ and_app (Some []) o
  front_none None = refl
  front_none (Some xs) = refl

  all_append : (xs ys : List Tree) → permit_all k b (trees (xs ++ ys)) ≡ and_app (permit_all k b (trees xs)) (permit_all k b (trees ys))
  all_append [] ys = front_none (permit_all k b (trees ys))
  all_append (x ∷ xs) ys = ap (and_then (permit k b x)) (all_append xs ys) ∙ front_all (permit k b x) (permit_all k b (trees xs)) (permit_all k b (trees ys))

  map_app : (o p : Option (List Tree)) → option_map (flat m) (and_app o p) ≡ and_app (option_map (flat m) o) (option_map (flat m) p)
  map_app None p = refl
  map_app (Some xs) None = refl
  map_app (Some xs) (Some ys) = ap Some (flat-append m xs ys)

  pub left-append : (xs ys : List Tree) → opened_left k b m (xs ++ ys) ≡ and_app (opened_left k b m xs) (opened_left k b m ys)
  left-append xs ys = ap (option_map (flat m)) (all_append xs ys) ∙ map_app (permit_all k b (trees xs)) (permit_all k b (trees ys))

  pub left-parts : (ps qs : List Part) → opened_left k b m (begun (ps ++ qs)) ≡ and_app (opened_left k b m (begun ps)) (opened_left k b m (begun qs))
  left-parts ps qs = ap (opened_left k b m) (begun-append ps qs) ∙ left-append (begun ps) (begun qs)

  one_more : (o : Option Tree) (p : Option (List Tree)) (y : Tree) (ys : List Tree) → o ≡ Some y → option_map (flat m) p ≡ Some ys → option_map (flat m) (and_then o p) ≡ Some (open_part m y ++ ys)
  one_more o None y ys e h = cc
  one_more o (Some xs) y ys e h = let q : flat m xs ≡ ys = cc in (λ i. option_map (flat m) (and_then (e i) (Some xs))) ∙ ap (λ l. Some (open_part m y ++ l)) q

  -- one more turn in front
  pub left-front : (x y : Tree) (ps qs rs : List Part) → permit k b x ≡ Some y → opened_left k b m (begun ps) ≡ Some (begun qs) → begun rs ≡ open_part m y ++ begun qs → opened_left k b m (begun (Turn x ∷ ps)) ≡ Some (begun rs)
  left-front x y ps qs rs e h g = one_more (permit k b x) (permit_all k b (trees (begun ps))) y (begun qs) e h ∙ ap Some (sym g)

-- both halves of a fork
module _ (o p : Option (List Tree)) (ps qs : List Part) where
  pub second-fails : p ≡ None → and_app o p ≡ None
  second-fails h = ap (and_app o) h ∙ none_behind o
    where
      none_behind : (o : Option (List Tree)) → and_app o None ≡ None
      none_behind None = refl
      none_behind (Some zs) = refl

-- lists of turns
pub turns-both : (ps qs : List Part) → has_gap ps ≡ false → has_gap qs ≡ false → has_gap (ps ++ qs) ≡ false
turns-both ps qs h g = gap-append ps qs ∙ (λ i. h i || g i)

pub turns-first : (ps qs : List Part) → has_gap (ps ++ qs) ≡ false → has_gap ps ≡ false
turns-first ps qs h = go (has_gap ps) (has_gap qs) (sym (gap-append ps qs) ∙ h)
  where
    go : (s t : Bool) → (s || t) ≡ false → s ≡ false
    go true t e = cc
    go false t e = refl

pub turns-second : (ps qs : List Part) → has_gap (ps ++ qs) ≡ false → has_gap qs ≡ false
turns-second ps qs h = go (has_gap ps) (has_gap qs) (sym (gap-append ps qs) ∙ h)
  where
    go : (s t : Bool) → (s || t) ≡ false → t ≡ false
    go true t e = cc
    go false t e = e

pub turns-take : (ps : List Part) (i : ℕ) → has_gap ps ≡ false → has_gap (take i ps) ≡ false
turns-take ps zero h = refl
turns-take [] (suc i) h = refl
turns-take (Gap c ∷ ps) (suc i) h = cc
turns-take (Turn x ∷ ps) (suc i) h = turns-take ps i h

pub turns-drop : (ps : List Part) (i : ℕ) → has_gap ps ≡ false → has_gap (drop i ps) ≡ false
turns-drop ps zero h = h
turns-drop [] (suc i) h = refl
turns-drop (Gap c ∷ ps) (suc i) h = cc
turns-drop (Turn x ∷ ps) (suc i) h = turns-drop ps i h

pub begun-take : (ps : List Part) (i : ℕ) → has_gap ps ≡ false → begun (take i ps) ≡ take i (begun ps)
begun-take ps zero h = refl
begun-take [] (suc i) h = refl
begun-take (Gap c ∷ ps) (suc i) h = cc
begun-take (Turn x ∷ ps) (suc i) h = ap (λ l. x ∷ l) (begun-take ps i h)

pub begun-drop : (ps : List Part) (i : ℕ) → has_gap ps ≡ false → begun (drop i ps) ≡ drop i (begun ps)
begun-drop ps zero h = refl
begun-drop [] (suc i) h = refl
begun-drop (Gap c ∷ ps) (suc i) h = cc
begun-drop (Turn x ∷ ps) (suc i) h = begun-drop ps i h

-- properties of each turn
pub each-first : (T : Tree → Type 0) (ps qs : List Part) → EachTurn T (ps ++ qs) → EachTurn T ps
each-first T [] qs h = tt
each-first T (Gap c ∷ ps) qs h = each-first T ps qs h
each-first T (Turn x ∷ ps) qs h = (h.0, each-first T ps qs h.1)

pub each-second : (T : Tree → Type 0) (ps qs : List Part) → EachTurn T (ps ++ qs) → EachTurn T qs
each-second T [] qs h = h
each-second T (Gap c ∷ ps) qs h = each-second T ps qs h
each-second T (Turn x ∷ ps) qs h = each-second T ps qs h.1

pub each-take : (T : Tree → Type 0) (ps : List Part) (i : ℕ) → EachTurn T ps → EachTurn T (take i ps)
each-take T ps zero h = tt
each-take T [] (suc i) h = tt
each-take T (Gap c ∷ ps) (suc i) h = each-take T ps i h
each-take T (Turn x ∷ ps) (suc i) h = (h.0, each-take T ps i h.1)

pub each-begun : (T : Tree → Type 0) (ps : List Part) → Each T (begun ps) → EachTurn T ps
each-begun T [] h = tt
each-begun T (Gap c ∷ ps) h = each-begun T ps h
each-begun T (Turn x ∷ ps) h = (h.0, each-begun T ps h.1)

pub each-listed : (T : Tree → Type 0) (ps : List Part) → EachTurn T ps → Each T (begun ps)
each-listed T [] h = tt
each-listed T (Gap c ∷ ps) h = each-listed T ps h
each-listed T (Turn x ∷ ps) h = (h.0, each-listed T ps h.1)

pub each-drop : (T : Tree → Type 0) (ps : List Part) (i : ℕ) → EachTurn T ps → EachTurn T (drop i ps)
each-drop T ps zero h = h
each-drop T [] (suc i) h = tt
each-drop T (Gap c ∷ ps) (suc i) h = each-drop T ps i h
each-drop T (Turn x ∷ ps) (suc i) h = each-drop T ps i h.1

pub flat-stays : (m : Mode) (ps : List Part) → EachTurn (IsPartOf m) ps → flat m (begun ps) ≡ begun ps
flat-stays m ps h = flat_same m (begun ps) (each-listed (IsPartOf m) ps h)

-- what a join comes to in a join of its kind
pub opened-here : (m n : Mode) (x : Tree) (ps qs : List Part) → m ≡ n → x ≡ Join n (trees (begun ps)) → qs ≡ ps → begun qs ≡ open_part m x
opened-here seq seq x ps qs q e h = ap begun h ∙ sym (ap (open_part seq) e ∙ items-trees (begun ps))
opened-here par par x ps qs q e h = ap begun h ∙ sym (ap (open_part par) e ∙ items-trees (begun ps))
opened-here seq par x ps qs q e h = cc
opened-here par seq x ps qs q e h = cc

-- the parts of a leaf but for one of them
module _ (ps new : List Part) (held : List RowPart) (i : ℕ) (e : ps ≡ parts_of held) (is : new ≡ parts_of (take i held ++ drop (i + 1) held)) where
  pub others : new ≡ take i ps ++ drop (i + 1) ps
  others = is ∙ (map-append part_of (take i held) (drop (i + 1) held) ∙ (λ k. front k ++ back k))
    where
      front : parts_of (take i held) ≡ take i ps
      front = sym (ap (take i) e ∙ take-map part_of i held)

      back : parts_of (drop (i + 1) held) ≡ drop (i + 1) ps
      back = sym (ap (drop (i + 1)) e ∙ drop-map part_of (i + 1) held)

  pub others-turns : has_gap ps ≡ false → has_gap new ≡ false
  others-turns t = ap has_gap others ∙ turns-both (take i ps) (drop (i + 1) ps) (turns-take ps i t) (turns-drop ps (i + 1) t)

  pub others-begun : (m : Mode) (x : Tree) → x ≡ Nil → begun new ≡ begun (take i ps) ++ (open_part m x ++ begun (drop (i + 1) ps))
  others-begun m x n = ap begun others ∙ (begun-append (take i ps) (drop (i + 1) ps) ∙ ap (λ l. begun (take i ps) ++ (l ++ begun (drop (i + 1) ps))) (sym (ap (open_part m) n)))

-- what holds of a result
pub ok-as : {A E : Type 0} (P Q : A → Type 0) (r : Result A E) → ((x : A) → P x → Q x) → IfOk r P → IfOk r Q
ok-as P Q (Ok x) f h = f x h
ok-as P Q (Err e) f h = tt

-- one more part
pub begun-next : (ps : List Part) (i : ℕ) (t : Part) → slice_get ps i ≡ Some t → begun (take (i + 1) ps) ≡ begun (take i ps) ++ begun (t ∷ [])
begun-next ps i t g = ap begun (take_step ps i t g) ∙ begun-append (take i ps) (t ∷ [])

pub ruleset joins = (turns-both, begun-append, append_assoc, begun-next)
