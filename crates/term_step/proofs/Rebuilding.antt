-- What is left of a whole term, from the frame at the path's end to its first.
use Rattle.std.specs.Prelude.{ℕ, zero, suc, ◌+◌, ◌<◌, List, [], ◌∷◌, ◌++◌, ◌≡◌, Option, Some, None, refl, take, slice_get}
use Rattle.std.proofs.Common.{ap, sym, ◌∙◌, subst, inl, inr}
use Rattle.list_facts.proofs.Reading.{take_step}
use Rattle.chart_term.specs.NormalForms.{NetPermits}
use Rattle.chart_term.specs.Properties.{MayHave}
use Rattle.chart_term.specs.Tables.{Tables}
use Rattle.chart_term.specs.Terms.{TermEvent, Tree, Event}
use Rattle.term_step.specs.Children.{child, put}
use Rattle.term_laws.specs.Permission.{permits_of}
use Rattle.term_permission.specs.Ready.{IsReady, AreReadyTables}
use Rattle.term_step.specs.Searches.{AreReadyFrames, child_count, put_some, put_all, IsPassed, IsResult}
use Rattle.term_step.specs.declared.ascent.Frame.{Frame}
use Rattle.term_step.proofs.Children.{in-child, from-child}
use Rattle.term_step.proofs.PutReady.{put-ready}

abbrev pub put_on : NetPermits → TermEvent → List Frame → Option Tree → Option Tree
put_on k e fs None = None
put_on k e fs (Some y) = put_all k e fs y

module _ (k : NetPermits) (e : TermEvent) where
  on_none : (o : Option Tree) → o ≡ put_on k e [] o
  on_none None = refl
  on_none (Some y) = refl

  on_more : (g : Frame) (fs : List Frame) (o : Option Tree) → put_some k e g (put_on k e fs o) ≡ put_on k e (g ∷ fs) o
  on_more g fs None = refl
  on_more g fs (Some y) = refl

  pub put-snoc : (fs : List Frame) (f : Frame) (y : Tree) → put_all k e (fs ++ f ∷ []) y ≡ put_on k e fs (put k e f.parent f.index y)
  put-snoc [] f y = on_none (put k e f.parent f.index y)
  put-snoc (g ∷ fs) f y = ap (put_some k e g) (put-snoc fs f y) ∙ on_more g fs (put k e f.parent f.index y)

  pub rebuilt-more : (path : List Frame) (i j : ℕ) (f : Frame) (left z : Tree) (whole : Option Tree) → slice_get path i ≡ Some f → i + 1 ≡ j → whole ≡ put_all k e (take j path) left → Some z ≡ put k e f.parent f.index left → whole ≡ put_all k e (take i path) z
  rebuilt-more path i j f left z whole g n h p =
      let here : take j path ≡ take i path ++ f ∷ [] = ap (λ m. take m path) (sym n) ∙ take_step path i f g in
      h ∙ (ap (λ l. put_all k e l left) here ∙ (put-snoc (take i path) f left ∙ ap (put_on k e (take i path)) (sym p)))

  pub rebuilt-none : (path : List Frame) (i j : ℕ) (f : Frame) (left : Tree) (whole : Option Tree) → slice_get path i ≡ Some f → i + 1 ≡ j → whole ≡ put_all k e (take j path) left → None ≡ put k e f.parent f.index left → None ≡ whole
  rebuilt-none path i j f left whole g n h p =
      let here : take j path ≡ take i path ++ f ∷ [] = ap (λ m. take m path) (sym n) ∙ take_step path i f g in
      sym (h ∙ (ap (λ l. put_all k e l left) here ∙ (put-snoc (take i path) f left ∙ ap (put_on k e (take i path)) (sym p))))

pub frame-ready : (w : Tables) (fs : List Frame) (i : ℕ) (f : Frame) → AreReadyFrames w fs → slice_get fs i ≡ Some f → IsReady w f.parent × (f.index < child_count w f.parent)
frame-ready w [] i f h g = cc
frame-ready w (u ∷ us) zero f h g = let p : u ≡ f = cc in subst (λ (v : Frame). IsReady w v.parent × (v.index < child_count w v.parent)) p (h.0, h.1)
frame-ready w (u ∷ us) (suc i) f h g = frame-ready w us i f h.2 g

pub frames-more : (w : Tables) (fs : List Frame) (x : Tree) (p : ℕ) → AreReadyFrames w fs → IsReady w x → p < child_count w x → AreReadyFrames w (fs ++ record { parent = x; index = p } ∷ [])
frames-more w [] x p h r l = (r, l, tt)
frames-more w (u ∷ us) x p h r l = (h.0, h.1, frames-more w us x p h.2 r l)

pub put-is-ready : (w : Tables) → AreReadyTables w → (e : TermEvent) (x : Tree) (i : ℕ) (y z : Tree) → IsReady w x → i < child_count w x → IsReady w y → Some z ≡ put (permits_of w) e x i y → IsReady w z
put-is-ready w t e x i y z h l r p = subst (λ (o : Option Tree). MayHave (IsReady w) o) (sym p) (put-ready w t e x i y h l r)

-- results of a term and of its children
pub result-child : (w : Tables) (a : ℕ) (fs : List Frame) (x z : Tree) → ((e : TermEvent) → x ≡ Event e → ⊥) → IsResult w a fs x z
    → (p : ℕ) × (y : Tree) × (child (permits_of w) x p ≡ Some y) × IsResult w a (fs ++ record { parent = x; index = p } ∷ []) y z
result-child w a fs x z n r = elim (in-child (permits_of w) r.taken) [
  | inl h ↦ absurd (n r.event h.0)
  | inr h ↦ (
    h.index,
    h.inner,
    h.there,
    record {
      event = r.event;
      labelled = r.labelled;
      left = h.left;
      taken = h.taken;
      whole = put-snoc (permits_of w) r.event fs (record { parent = x; index = h.index }) h.left ∙ (ap (put_on (permits_of w) r.event fs) h.whole ∙ r.whole);
    },
  )
]

on_some : (k : NetPermits) (e : TermEvent) (fs : List Frame) (o : Option Tree) (z : Tree) → put_on k e fs o ≡ Some z → (y : Tree) × (o ≡ Some y) × (put_all k e fs y ≡ Some z)
on_some k e fs None z h = cc
on_some k e fs (Some y) z h = (y, refl, h)

pub result-up : (w : Tables) (a : ℕ) (fs : List Frame) (x : Tree) (p : ℕ) (y z : Tree) → child (permits_of w) x p ≡ Some y → IsResult w a (fs ++ record { parent = x; index = p } ∷ []) y z → IsResult w a fs x z
result-up w a fs x p y z c r =
    let (u, h, g) = on_some (permits_of w) r.event fs (put (permits_of w) r.event x p r.left) z (sym (put-snoc (permits_of w) r.event fs (record { parent = x; index = p }) r.left) ∙ r.whole) in
    record {
      event = r.event;
      labelled = r.labelled;
      left = u;
      taken = from-child (permits_of w) x u r.event (record { index = p; inner = y; left = r.left; there = c; taken = r.taken; whole = h });
      whole = g;
    }

-- nothing is left of the whole where nothing is left of the term
pub passed-none : (w : Tables) (a : ℕ) (fs : List Frame) (x : Tree) (p : ℕ) (y z : Tree) → child (permits_of w) x p ≡ Some y → IsPassed w a x p → IsResult w a (fs ++ record { parent = x; index = p } ∷ []) y z → ⊥
passed-none w a fs x p y z c h r =
    let e : None ≡ Some z = ap (put_on (permits_of w) r.event fs) (sym (h y c r.event r.labelled r.left r.taken)) ∙ (sym (put-snoc (permits_of w) r.event fs (record { parent = x; index = p }) r.left) ∙ r.whole) in
    cc

pub front-ready : (w : Tables) (fs : List Frame) (f : Frame) → AreReadyFrames w (fs ++ f ∷ []) → AreReadyFrames w fs × IsReady w f.parent × (f.index < child_count w f.parent)
front-ready w [] f h = (tt, h.0, h.1)
front-ready w (g ∷ fs) f h = let r = front-ready w fs f h.2 in ((h.0, h.1, r.0), r.1, r.2)
