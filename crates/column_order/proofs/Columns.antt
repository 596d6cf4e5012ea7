-- Neighbours make up a column, and a whole order has each column as its restriction.
use Rattle.std.proofs.Common.{◌≡◌, ℕ, ◌<◌, Bool, true, false, List, [], ◌∷◌, ◌++◌, ◌⊎◌, inl, inr, if◌then◌else◌, All, refl, sym, ap, ◌∙◌, subst, arith, append-nil, append_assoc}
use Rattle.msc_base.specs.Lists.{IsAmong, AreDifferent}
use Rattle.column_order.specs.Orders.{IsNext, IsWhole}
use Rattle.column_order.specs.Weaving.{ColumnOrders, ColumnsOrder, restricted, IsWoven}
use Rattle.column_order.specs.Counts.{EdgeLeads, Inside, has}
use Rattle.std.proofs.lemmas.List.Elements.{All-cons}
use Rattle.list_facts.proofs.Members.{among_left, among_right}
use Rattle.column_order.specs.Columns.{from_to, neighbours, all_neighbours}
use Rattle.column_order.specs.declared.edge.Edge.{Edge}
use Rattle.column_order.proofs.Agree.{Follows, to_follows}
use Rattle.column_order.proofs.Exchange.{MakesUp, has_either}
use Rattle.column_order.proofs.Ends.{leads_left, leads_right, leads_either}
use Rattle.column_order.proofs.Counting.{true_has, false_has}

from_within : (c : ℕ) (cs : List ℕ) (y x : ℕ) → EdgeLeads (from_to c cs) y x → ColumnOrders (c ∷ cs) y x
from_within c [] y x l = absurd l
from_within c (d ∷ ds) y x (inl p) = inl (p.0, inl (sym p.1))
from_within c (d ∷ ds) y x (inr l) = inr (from_within d ds y x l)

abbrev Steps : (ℕ → ℕ → Type 0) → (ℕ → ℕ → Type 0) → ℕ → ℕ → Type 0
Steps near far y x = near y x ⊎ ((z : ℕ) × far y z × near z x)

-- what follows the first item
from_first : (c : ℕ) (cs : List ℕ) (x : ℕ) → IsAmong cs x → EdgeLeads (from_to c cs) c x ⊎ ((z : ℕ) × IsAmong cs z × EdgeLeads (from_to c cs) z x)
from_first c [] x h = absurd h
from_first c (d ∷ ds) x (inl e) = inl (inl (refl, sym e))
from_first c (d ∷ ds) x (inr h) = elim (from_first d ds x h) [
  | inl l ↦ inr (d, inl refl, inr l)
  | inr t ↦ inr (t.0, inr t.1, inr t.2)
]

from_steps : (c : ℕ) (cs : List ℕ) (y x : ℕ) → ColumnOrders (c ∷ cs) y x → Steps (EdgeLeads (from_to c cs)) (ColumnOrders (c ∷ cs)) y x
from_steps c [] y x (inl p) = absurd p.1
from_steps c [] y x (inr b) = absurd b
from_steps c (d ∷ ds) y x (inl p) = elim (from_first c (d ∷ ds) x p.1) [
  | inl l ↦ inl (subst (λ (w : ℕ). EdgeLeads (from_to c (d ∷ ds)) w x) p.0 l)
  | inr t ↦ inr (t.0, inl (p.0, t.1), t.2)
]
from_steps c (d ∷ ds) y x (inr b) = elim (from_steps d ds y x b) [
  | inl l ↦ inl (inr l)
  | inr t ↦ inr (t.0, inr t.1, inr t.2)
]

one_within : (column : List ℕ) (y x : ℕ) → EdgeLeads (neighbours column) y x → ColumnOrders column y x
one_within [] y x l = l
one_within (c ∷ cs) y x l = from_within c cs y x l

one_steps : (column : List ℕ) (y x : ℕ) → ColumnOrders column y x → Steps (EdgeLeads (neighbours column)) (ColumnOrders column) y x
one_steps [] y x b = absurd b
one_steps (c ∷ cs) y x b = from_steps c cs y x b

all_within : (columns : List (List ℕ)) (y x : ℕ) → EdgeLeads (all_neighbours columns) y x → ColumnsOrder columns y x
all_within [] y x l = l
all_within (column ∷ columns) y x l = elim (leads_either (neighbours column) (all_neighbours columns) y x l) [
  | inl a ↦ inl (one_within column y x a)
  | inr b ↦ inr (all_within columns y x b)
]

all_steps : (columns : List (List ℕ)) (y x : ℕ) → ColumnsOrder columns y x → Steps (EdgeLeads (all_neighbours columns)) (ColumnsOrder columns) y x
all_steps [] y x p = absurd p
all_steps (column ∷ columns) y x (inl b) = elim (one_steps column y x b) [
  | inl l ↦ inl (leads_left (neighbours column) (all_neighbours columns) y x l)
  | inr t ↦ inr (t.0, inl t.1, leads_left (neighbours column) (all_neighbours columns) t.0 x t.2)
]
all_steps (column ∷ columns) y x (inr p) = elim (all_steps columns y x p) [
  | inl l ↦ inl (leads_right (neighbours column) (all_neighbours columns) y x l)
  | inr t ↦ inr (t.0, inr t.1, leads_right (neighbours column) (all_neighbours columns) t.0 x t.2)
]

pub columns_made : (columns : List (List ℕ)) → MakesUp (EdgeLeads (all_neighbours columns)) (ColumnsOrder columns)
columns_made columns = record { within = all_within columns; steps = all_steps columns }

-- a column is the restriction of the order
before_right : (past rest : List ℕ) (y x : ℕ) → ColumnOrders rest y x → ColumnOrders (past ++ rest) y x
before_right [] rest y x b = b
before_right (p ∷ past) rest y x b = inr (before_right past rest y x b)

column_precedes : (columns : List (List ℕ)) (column : List ℕ) (y x : ℕ) → IsAmong columns column → ColumnOrders column y x → ColumnsOrder columns y x
column_precedes [] column y x h b = absurd h
column_precedes (c ∷ cs) column y x (inl e) b = inl (subst (λ (k : List ℕ). ColumnOrders k y x) e b)
column_precedes (c ∷ cs) column y x (inr h) b = inr (column_precedes cs column y x h b)

module _ (n : ℕ) (columns : List (List ℕ)) (column : List ℕ) (mine : IsAmong columns column) where
  head_is : (prefix xs past rest : List ℕ) (x : ℕ) → IsNext n (ColumnsOrder columns) prefix x → column ≡ past ++ rest → ((x : ℕ) → IsAmong past x → IsAmong prefix x) → ((x : ℕ) → IsAmong rest x → IsAmong prefix x → ⊥) → IsAmong column x → (rs : List ℕ) × (rest ≡ x ∷ rs)
  head_is prefix xs past [] x next is in_front later h =
      absurd (next.due.remains (in_front x (subst (λ (k : List ℕ). IsAmong k x) (is ∙ append-nil past) h)))
  head_is prefix xs past (r ∷ rs) x next is in_front later h = elim (has_either past (r ∷ rs) x (subst (λ (k : List ℕ). IsAmong k x) is h)) [
    | inl l ↦ absurd (next.due.remains (in_front x l))
    | inr g ↦ elim g [
      | inl e ↦ (rs, ap (λ (z : ℕ). z ∷ rs) (sym e))
      | inr t ↦ absurd (later r (inl refl) (next.due.ready r (column_precedes columns column r x mine (subst (λ (k : List ℕ). ColumnOrders k r x) (sym is) (before_right past (r ∷ rs) r x (inl (refl, t)))))))
    ]
  ]

  snoc_has : (xs : List ℕ) (u x : ℕ) → IsAmong (xs ++ u ∷ []) x → IsAmong xs x ⊎ (u ≡ x)
  snoc_has xs u x h = elim (has_either xs (u ∷ []) x h) [ inl l ↦ inl l | inr r ↦ elim r [ inl e ↦ inr (sym e) | inr b ↦ absurd b ] ]

  rest_after : (prefix past rs : List ℕ) (x : ℕ) → IsNext n (ColumnsOrder columns) prefix x → column ≡ past ++ (x ∷ rs) → ((y : ℕ) → IsAmong (x ∷ rs) y → IsAmong prefix y → ⊥) → (y : ℕ) → IsAmong rs y → IsAmong (prefix ++ x ∷ []) y → ⊥
  rest_after prefix past rs x next is later y h g = elim (snoc_has prefix x y g) [
    | inl l ↦ later y (inr h) l
    | inr e ↦ next.due.remains (next.due.ready x (column_precedes columns column x x mine (subst (λ (k : List ℕ). ColumnOrders k x x) (sym is) (before_right past (x ∷ rs) x x (inl (refl, subst (λ (z : ℕ). IsAmong rs z) (sym e) h))))))
  ]

  pub restrict : (prefix xs past rest : List ℕ) → Follows n (ColumnsOrder columns) prefix xs → column ≡ past ++ rest → ((x : ℕ) → IsAmong past x → IsAmong prefix x) → ((x : ℕ) → IsAmong rest x → IsAmong prefix x → ⊥) → ((x : ℕ) → IsAmong rest x → IsAmong xs x) → restricted column xs ≡ rest
  restrict prefix [] past [] f is in_front later every = refl
  restrict prefix [] past (r ∷ rs) f is in_front later every = absurd (every r (inl refl))
  restrict prefix (x ∷ xs) past rest f is in_front later every = choose (has column x) refl
      (λ rs e. restrict (prefix ++ x ∷ []) xs (past ++ x ∷ []) rs f.1
      (is ∙ ap (λ (k : List ℕ). past ++ k) e ∙ sym (append_assoc past (x ∷ []) rs))
      (λ y h. elim (snoc_has past x y h) [ inl l ↦ among_left prefix (x ∷ []) y (in_front y l) | inr q ↦ among_right prefix (x ∷ []) y (inl (sym q)) ])
      (rest_after prefix past rs x f.0 (is ∙ ap (λ (k : List ℕ). past ++ k) e) (λ y h. later y (subst (λ (k : List ℕ). IsAmong k y) (sym e) h)))
      (λ y h. elim (every y (subst (λ (k : List ℕ). IsAmong k y) (sym e) (inr h))) [
        | inl q ↦ absurd (rest_after prefix past rs x f.0 (is ∙ ap (λ (k : List ℕ). past ++ k) e) (λ z g. later z (subst (λ (k : List ℕ). IsAmong k z) (sym e) g)) y h (among_right prefix (x ∷ []) y (inl q)))
        | inr t ↦ t
      ]))
      (λ lacks. restrict (prefix ++ x ∷ []) xs past rest f.1 is
      (λ y h. among_left prefix (x ∷ []) y (in_front y h))
      (λ y h g. elim (snoc_has prefix x y g) [ inl l ↦ later y h l | inr q ↦ lacks (subst (λ (k : List ℕ). IsAmong k x) (sym is) (among_right past rest x (subst (λ (z : ℕ). IsAmong rest z) (sym q) h))) ])
      (λ y h. elim (every y h) [ inl q ↦ absurd (lacks (subst (λ (k : List ℕ). IsAmong k x) (sym is) (among_right past rest x (subst (λ (z : ℕ). IsAmong rest z) q h)))) | inr t ↦ t ]))
    where
      choose : (b : Bool) → has column x ≡ b → ((rs : List ℕ) → rest ≡ x ∷ rs → restricted column xs ≡ rs) → ((IsAmong column x → ⊥) → restricted column xs ≡ rest) → (if b then x ∷ restricted column xs else restricted column xs) ≡ rest
      choose true e held lacking =
          let t = head_is prefix xs past rest x f.0 is in_front later (true_has column x e) in
          ap (λ (k : List ℕ). x ∷ k) (held t.0 t.1) ∙ sym t.1
      choose false e held lacking = lacking (false_has column x e)

follows_different : (n : ℕ) (precedes : ℕ → ℕ → Type 0) (prefix xs : List ℕ) → Follows n precedes prefix xs → AreDifferent xs × ((x : ℕ) → IsAmong xs x → (x < n) × (IsAmong prefix x → ⊥))
follows_different n precedes prefix [] f = (tt, λ x h. absurd h)
follows_different n precedes prefix (y ∷ ys) f =
    let r = follows_different n precedes (prefix ++ y ∷ []) ys f.1 in (
      (λ h. (r.1 y h).1 (among_right prefix (y ∷ []) y (inl refl)), r.0),
      λ x h. elim h [
        | inl e ↦ (subst (λ (z : ℕ). z < n) (sym e) f.0.due.inside, λ g. f.0.due.remains (subst (λ (z : ℕ). IsAmong prefix z) e g))
        | inr t ↦ ((r.1 x t).0, λ g. (r.1 x t).1 (among_left prefix (y ∷ []) x g))
      ],
    )

pub woven : (n : ℕ) (columns : List (List ℕ)) (order : List ℕ) → ((column : List ℕ) → IsAmong columns column → (x : ℕ) → IsAmong column x → x < n) → IsWhole n (ColumnsOrder columns) order → IsWoven n columns order
woven n columns order inside w =
    let f : Follows n (ColumnsOrder columns) [] order = to_follows n (ColumnsOrder columns) [] order w.earliest in
    let d = follows_different n (ColumnsOrder columns) [] order f in
    record {
      inside = λ x h. (d.1 x h).0;
      every = w.every;
      once = d.0;
      columns_are = λ column mine. restrict n columns column mine [] order [] column f refl (λ x h. h) (λ x h g. g) (λ x h. w.every x (inside column mine x h));
      earliest = w.earliest;
    }

pub whole_of : (n : ℕ) (columns : List (List ℕ)) (order : List ℕ) → IsWoven n columns order → IsWhole n (ColumnsOrder columns) order
whole_of n columns order w = record { every = w.every; earliest = w.earliest }

pub all_leads_inside : (n : ℕ) (es : List Edge) → ((y x : ℕ) → EdgeLeads es y x → (y < n) × (x < n)) → All (Inside n) es
all_leads_inside n [] h = λ k d lt. absurd (omega arith)
all_leads_inside n (e ∷ es) h = All-cons (Inside n) e es (h e.from e.to (inl (refl, refl))) (all_leads_inside n es (λ y x l. h y x (inr l)))

before_both : (cs : List ℕ) (y x : ℕ) → ColumnOrders cs y x → IsAmong cs y × IsAmong cs x
before_both [] y x b = absurd b
before_both (c ∷ cs) y x (inl p) = (inl (sym p.0), inr p.1)
before_both (c ∷ cs) y x (inr b) = let r = before_both cs y x b in (inr r.0, inr r.1)

precedes_inside : (n : ℕ) (columns : List (List ℕ)) → ((column : List ℕ) → IsAmong columns column → (x : ℕ) → IsAmong column x → x < n) → (y x : ℕ) → ColumnsOrder columns y x → (y < n) × (x < n)
precedes_inside n [] h y x p = absurd p
precedes_inside n (c ∷ cs) h y x (inl b) = let r = before_both c y x b in (h c (inl refl) y r.0, h c (inl refl) x r.1)
precedes_inside n (c ∷ cs) h y x (inr p) = precedes_inside n cs (λ column m. h column (inr m)) y x p

pub neighbours_inside : (n : ℕ) (columns : List (List ℕ)) → ((column : List ℕ) → IsAmong columns column → (x : ℕ) → IsAmong column x → x < n) → All (Inside n) (all_neighbours columns)
neighbours_inside n columns h = all_leads_inside n (all_neighbours columns) (λ y x l. precedes_inside n columns h y x (all_within columns y x l))
