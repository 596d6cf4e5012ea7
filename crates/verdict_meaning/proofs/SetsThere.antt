-- There is a set of residual terms after every list of labels.
use Rattle.std.specs.Prelude.{ℕ, List, [], ◌∷◌, ◌++◌, Option, Some, None, ◌≡◌, ◌⊎◌}
use Rattle.std.proofs.Common.{ap, sym, ◌∙◌, refl, subst, inl, inr}
use Rattle.msc_base.specs.declared.label.Label.{Label}
use Rattle.msc_base.specs.Lists.{IsAmong}
use Rattle.term_laws.proofs.SetExact.{distinct_from, distinct_in}
use Rattle.term_tables.specs.NetValues.{NetsValue, label_number}
use Rattle.chart_term.specs.NormalForms.{NetPermits, distinct}
use Rattle.chart_term.specs.TermPatterns.{Both}
use Rattle.chart_term.specs.Terms.{TermEvent, Tree}
use Rattle.term_laws.specs.Listing.{ListIsExact, ResidualSetIsExact, next_set}
use Rattle.term_laws.specs.Permission.{permits_of}
use Rattle.term_laws.specs.Residuals.{IsResidual, res_none, res_more}
use Rattle.term_laws.specs.Soundness.{AreTidyTables}
use Rattle.term_successors.specs.Successors.{IsSuccessor}
use Rattle.term_laws.specs.Taking.{IsAfter}
use Rattle.term_laws.proofs.Normalising.{are_different}
use Rattle.trace_judge.specs.Laws.{SetsGoOn}
use Rattle.term_successors.specs.Successors.{IsLeftOf}
use Rattle.verdict_meaning.specs.SetsThere.{HasResiduals, HasSuccessors, SetsAreThere}

among_app : (y : Tree) (a b : List Tree) → IsAmong (a ++ b) y → IsAmong a y ⊎ IsAmong b y
among_app y [] b h = inr h
among_app y (x ∷ a) b (inl e) = inl (inl e)
among_app y (x ∷ a) b (inr h) = elim (among_app y a b h) [ inl i ↦ inl (inr i) | inr i ↦ inr i ]

among_left : (y : Tree) (a b : List Tree) → IsAmong a y → IsAmong (a ++ b) y
among_left y [] b h = absurd h
among_left y (x ∷ a) b (inl e) = inl e
among_left y (x ∷ a) b (inr h) = inr (among_left y a b h)

among_right : (y : Tree) (a b : List Tree) → IsAmong b y → IsAmong (a ++ b) y
among_right y [] b h = h
among_right y (x ∷ a) b h = inr (among_right y a b h)

-- one event
one_cut : (k : NetPermits) (x y : Tree) (a : ℕ) → IsResidual k x (a ∷ []) y → (e : TermEvent) × (e.label ≡ a) × IsAfter k x e y
one_cut k x y a (res_more {e = e} h res_none) = (e, refl, h)

one_made : (k : NetPermits) (x y : Tree) (a : ℕ) (e : TermEvent) → e.label ≡ a → IsAfter k x e y → IsResidual k x (a ∷ []) y
one_made k x y a e q h = subst (λ b. IsResidual k x (b ∷ []) y) q (res_more h res_none)

some_is : (m n : ℕ) → Some m ≡ Some n → m ≡ n
some_is m n e = cc

module _ (list : ListIsExact) (set : ResidualSetIsExact) (v : NetsValue) (tidy : AreTidyTables v.tables) (label : Label) where
  record OneNext (x : Tree) : Type 0 where
    pub next : List Tree
    pub exact : (y : Tree) → Both (IsAmong next y) (IsSuccessor v label x y)

  one_next : (x : Tree) → OneNext x
  one_next x = by (label_number v.labels label) refl
    where
      by : (o : Option ℕ) → label_number v.labels label ≡ o → OneNext x
      by None e = record { next = []; exact = λ y. record { to = λ h. absurd h; from = λ s. none s.event.label (sym e ∙ s.labelled) } }
        where
          none : {A : Type 0} (n : ℕ) → None ≡ Some n → A
          none n q = absurd cc
      by (Some a) e =
          let d = list.deep v.tables x tidy in
          let r = set.set v.tables d.depth x (a ∷ []) ((d.enough, tt), tt) in
          record {
            next = next_set d.depth (permits_of v.tables) a (x ∷ []);
            exact = λ y. record {
              to = λ h. let (f, q, i) = one_cut (permits_of v.tables) x y a ((r.exact y).to h) in record { event = f; labelled = e ∙ ap Some (sym q); after = i };
              from = λ s. (r.exact y).from (one_made (permits_of v.tables) x y a s.event (some_is s.event.label a (sym s.labelled ∙ e)) s.after);
            };
          }

  record AllNext (terms : List Tree) : Type 0 where
    pub next : List Tree
    pub exact : (y : Tree) → Both (IsAmong next y) (IsLeftOf v label terms y)

  all_next : (terms : List Tree) → AllNext terms
  all_next [] = record { next = []; exact = λ y. record { to = λ h. absurd h; from = λ l. absurd l.held } }
  all_next (x ∷ xs) =
      let a = one_next x in
      let b = all_next xs in
      record { next = a.next ++ b.next; exact = λ y. record { to = λ h. to a b y (among_app y a.next b.next h); from = λ l. from a b y l.term l.held l.left } }
    where
      to : (a : OneNext x) (b : AllNext xs) (y : Tree) → IsAmong a.next y ⊎ IsAmong b.next y → IsLeftOf v label (x ∷ xs) y
      to a b y (inl h) = record { term = x; held = inl refl; left = (a.exact y).to h }
      to a b y (inr h) = let l = (b.exact y).to h in record { term = l.term; held = inr l.held; left = l.left }

      from : (a : OneNext x) (b : AllNext xs) (y z : Tree) → IsAmong (x ∷ xs) z → IsSuccessor v label z y → IsAmong (a.next ++ b.next) y
      from a b y z (inl e) s = among_left y a.next b.next ((a.exact y).from (subst (λ (t : Tree). IsSuccessor v label t y) e s))
      from a b y z (inr h) s = among_right y a.next b.next ((b.exact y).from (record { term = z; held = h; left = s }))

  pub successors : (terms : List Tree) → HasSuccessors v label terms
  successors terms =
      let a = all_next terms in
      record {
        next = distinct a.next;
        are = record {
          different = are_different a.next;
          exact = λ y. record { to = λ h. (a.exact y).to (distinct_from y a.next h); from = λ l. distinct_in y a.next ((a.exact y).from l) };
        };
      }

labels_assoc : (a : List Label) (l : Label) (b : List Label) → (a ++ l ∷ []) ++ b ≡ a ++ l ∷ b
labels_assoc [] l b = refl
labels_assoc (k ∷ a) l b = ap (λ x. k ∷ x) (labels_assoc a l b)

labels_none : (a : List Label) → a ++ [] ≡ a
labels_none [] = refl
labels_none (k ∷ a) = ap (λ x. k ∷ x) (labels_none a)

pub sets_are_there : ListIsExact → ResidualSetIsExact → SetsGoOn → SetsAreThere
sets_are_there list set go = record {
  step = λ v label terms t. successors list set v t label terms;
  sets = λ v x labels t. onward v x t [] labels (record { set = x ∷ []; are = go.start v x });
}
  where
    onward : (v : NetsValue) (x : Tree) → AreTidyTables v.tables → (prefix rest : List Label) → HasResiduals v x prefix → HasResiduals v x (prefix ++ rest)
    onward v x t prefix [] h = subst (λ (l : List Label). HasResiduals v x l) (sym (labels_none prefix)) h
    onward v x t prefix (l ∷ rest) h =
        let n = successors list set v t l h.set in
        subst (λ (k : List Label). HasResiduals v x k) (labels_assoc prefix l rest) (onward v x t (prefix ++ l ∷ []) rest (record { set = n.next; are = go.step v x prefix l h.set n.next h.are n.are }))
