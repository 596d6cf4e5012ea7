-- The instances that take part elsewhere: rows of the charts that refine each instance, and numbers that two rows have.
use Rattle.std.proofs.Common.{◌≡◌, ◌↔◌, ◌⊎◌, inl, inr, ◌<◌, ◌≤◌, ◌+◌, ℕ, Bool, true, false, ◌||◌, ◌&&◌, List, [], ◌∷◌, get_or, length, map, Option, Some, None, refl, sym, ap, subst, ◌∙◌, set, arith}
use Rattle.std.proofs.lemmas.Bool.{cases_eq, cases_lt, true≢false}
use Rattle.std.proofs.lemmas.List.{get_or_past, get_or-set_same, get_or-set_other}
use Rattle.bit_sets.specs.Blocks.{HasBitsOfBoth, has_bit}
use Rattle.chart_links.proofs.BitFacts.{had_common, had_either, none_had, or_true_is}
use Rattle.chart_links.proofs.SetFacts.{row_missing}
use Rattle.chart_links.proofs.TableFacts.{has_number, same_name, same_number}
use Rattle.chart_links.specs.Rows.{AreEmpty, RowHas}
use Rattle.chart_links.specs.Sets.{HasBitsOfCommon, HasExpanded}
use Rattle.chart_links.specs.Tables.{IsNumber}
use Rattle.gate_ends.specs.FoundEnds.{level_names}
use Rattle.msc_base.specs.Lists.{IsAmong}
use Rattle.msc_meaning.specs.Bodies.{Body}
use Rattle.msc_tree.specs.declared.chart.Decl.{Decl}
use Rattle.refinement_rules.specs.Judging.{DeclNumber, Decomposes, IsDouble, IsTaken, IsTwice, OfRefining, OwnNumber}
use Rattle.refinement_rules.specs.RefinementRules.{covered}
use Rattle.refinement_rules.specs.Walks.{HasBit, IsGrown, OneHolds}
use Rattle.refinement_rules.proofs.Semantics.{decomposed_is, of_refining, refining_of}
use Rattle.refinement_rules.proofs.Walked.{one_from, one_of, one_same}

-- ---- one row more

-- one of the rows below that number has it
pub record OneBelow (rows : List (List ℕ)) (k n : ℕ) : Type 0 where
  pub row : ℕ
  pub low : row < k
  pub has : RowHas rows row n

pub record TwiceBelow (rows : List (List ℕ)) (k n : ℕ) : Type 0 where
  pub one : ℕ
  pub other : ℕ
  pub one_low : one < k
  pub other_low : other < k
  pub differs : one ≡ other → ⊥
  pub first : RowHas rows one n
  pub second : RowHas rows other n

and_both : (a b : Bool) → (a && b) ≡ true → (a ≡ true) × (b ≡ true)
and_both true true h = (refl, refl)
and_both true false h = absurd (true≢false (sym h))
and_both false b h = absurd (true≢false (sym h))

both_and : (a b : Bool) → a ≡ true → b ≡ true → (a && b) ≡ true
both_and true true h g = refl
both_and true false h g = g
both_and false b h g = h

module _ (rows : List (List ℕ)) (k : ℕ) (row : List ℕ) (is : row ≡ get_or rows k []) where
  has_row : (n : ℕ) → (has_bit row n ≡ true) ↔ RowHas rows k n
  has_row n = (λ h. subst (λ (l : List ℕ). has_bit l n ≡ true) is h, λ h. subst (λ (l : List ℕ). has_bit l n ≡ true) (sym is) h)

  pub once_step : (once new : List ℕ) → HasBitsOfBoth once row new → ((n : ℕ) → HasBit once n ↔ OneBelow rows k n) → (n : ℕ) → HasBit new n ↔ OneBelow rows (k + 1) n
  once_step once new both h n =
      let either = or_true_is (has_bit once n) (has_bit row n) in
      let made = had_either once row new both n in (
        λ b. elim (either.0 (sym made ∙ b)) [
          | inl old ↦ let o = (h n).0 old in record { row = o.row; low = omega (arith, o.low); has = o.has }
          | inr here ↦ record { row = k; low = omega arith; has = (has_row n).0 here }
        ],
        λ o. made ∙ either.1 (elim (cases_eq o.row k) [
          | inl e ↦ inr ((has_row n).1 (subst (λ (u : ℕ). RowHas rows u n) e o.has))
          | inr ne ↦ inl ((h n).1 (record { row = o.row; low = omega (arith, o.low, ne); has = o.has }))
        ]),
      )

  pub twice_step : (Old : ℕ → Type 0) (once now new : List ℕ) → HasBitsOfCommon now once row new → ((n : ℕ) → HasBit once n ↔ OneBelow rows k n) → ((n : ℕ) → HasBit now n ↔ (Old n ⊎ TwiceBelow rows k n))
      → (n : ℕ) → HasBit new n ↔ (Old n ⊎ TwiceBelow rows (k + 1) n)
  twice_step Old once now new common ones h n = (to, from)
    where
      made : has_bit new n ≡ (has_bit now n || (has_bit once n && has_bit row n))
      made = had_common now once row new common n

      either : ((has_bit now n || (has_bit once n && has_bit row n)) ≡ true) ↔ ((has_bit now n ≡ true) ⊎ ((has_bit once n && has_bit row n) ≡ true))
      either = or_true_is (has_bit now n) (has_bit once n && has_bit row n)

      to : HasBit new n → Old n ⊎ TwiceBelow rows (k + 1) n
      to b = elim (either.0 (sym made ∙ b)) [
        | inl old ↦ elim ((h n).0 old) [
          | inl first ↦ inl first
          | inr t ↦ inr (record { one = t.one; other = t.other; one_low = omega (arith, t.one_low); other_low = omega (arith, t.other_low); differs = t.differs; first = t.first; second = t.second })
        ]
        | inr two ↦
            let p = and_both (has_bit once n) (has_bit row n) two in
            let o = (ones n).0 p.0 in
            inr (record { one = o.row; other = k; one_low = omega (arith, o.low); other_low = omega arith; differs = λ e. omega (arith, e, o.low); first = o.has; second = (has_row n).0 p.1 })
      ]

      here : (u : ℕ) → u < k + 1 → (u ≡ k → ⊥) → RowHas rows u n → RowHas rows k n → HasBit new n
      here u low ne first second = made ∙ either.1 (inr (both_and (has_bit once n) (has_bit row n) ((ones n).1 (record { row = u; low = omega (arith, low, ne); has = first })) ((has_row n).1 second)))

      from_twice : TwiceBelow rows (k + 1) n → HasBit new n
      from_twice t = elim (cases_eq t.one k) [
        | inl e ↦ here t.other t.other_low (λ f. t.differs (e ∙ sym f)) t.second (subst (λ (u : ℕ). RowHas rows u n) e t.first)
        | inr ne ↦ elim (cases_eq t.other k) [
          | inl e ↦ here t.one t.one_low ne t.first (subst (λ (u : ℕ). RowHas rows u n) e t.second)
          | inr other_ne ↦ made ∙ either.1 (inl ((h n).1 (inr (record { one = t.one; other = t.other; one_low = omega (arith, t.one_low, ne); other_low = omega (arith, t.other_low, other_ne); differs = t.differs; first = t.first; second = t.second }))))
        ]
      ]

      from : Old n ⊎ TwiceBelow rows (k + 1) n → HasBit new n
      from (inl old) = made ∙ either.1 (inl ((h n).1 (inl old)))
      from (inr t) = from_twice t

pub once_start : (rows : List (List ℕ)) (once : List ℕ) → once ≡ [] → (n : ℕ) → HasBit once n ↔ OneBelow rows 0 n
once_start rows once e n = (λ b. absurd (true≢false (sym b ∙ ap (λ (l : List ℕ). has_bit l n) e ∙ none_had n)), λ o. absurd (omega (arith, o.low)))

pub twice_start : (rows : List (List ℕ)) (set : List ℕ) (n : ℕ) → HasBit set n ↔ (HasBit set n ⊎ TwiceBelow rows 0 n)
twice_start rows set n = (λ b. inl b, λ s. elim s [ inl b ↦ b | inr t ↦ absurd (omega (arith, t.one_low)) ])

row_low : (rows : List (List ℕ)) (u n : ℕ) → RowHas rows u n → u < length rows
row_low rows u n h = elim (cases_lt u (length rows)) [ inl lt ↦ lt | inr high ↦ absurd (row_missing rows u high n h) ]

pub twice_end : (rows : List (List ℕ)) (Old : ℕ → Type 0) (set : List ℕ) (k : ℕ) → length rows ≤ k → ((n : ℕ) → HasBit set n ↔ (Old n ⊎ TwiceBelow rows k n)) → IsGrown Old (IsTwice rows) (HasBit set)
twice_end rows Old set k all h n = (
  λ b. elim ((h n).0 b) [ inl old ↦ inl old | inr t ↦ inr (record { one = t.one; other = t.other; differs = t.differs; first = t.first; second = t.second }) ],
  λ s. (h n).1 (elim s [
    | inl old ↦ inl old
    | inr t ↦ inr (record { one = t.one; other = t.other; one_low = omega (arith, row_low rows t.one n t.first, all); other_low = omega (arith, row_low rows t.other n t.second, all); differs = t.differs; first = t.first; second = t.second })
  ]),
)

-- ---- a row that grows

pub row_changed : (rows : List (List ℕ)) (k : ℕ) (row new : List ℕ) (Added : ℕ → Type 0) → k < length rows → row ≡ get_or rows k [] → IsGrown (HasBit row) Added (HasBit new) → (u n : ℕ)
    → RowHas (set rows k new) u n ↔ (RowHas rows u n ⊎ ((u ≡ k) × Added n))
row_changed rows k row new Added low is grown u n = elim (cases_eq u k) [
  | inl e ↦
      let here : get_or (set rows k new) u [] ≡ new = ap (λ (z : ℕ). get_or (set rows k new) z []) e ∙ get_or-set_same rows k new [] low in
      let old : get_or rows u [] ≡ row = ap (λ (z : ℕ). get_or rows z []) e ∙ sym is in (
        λ h. elim ((grown n).0 (subst (λ (l : List ℕ). has_bit l n ≡ true) here h)) [ inl a ↦ inl (subst (λ (l : List ℕ). has_bit l n ≡ true) (sym old) a) | inr b ↦ inr (e, b) ],
        λ s. subst (λ (l : List ℕ). has_bit l n ≡ true) (sym here) ((grown n).1 (elim s [ inl a ↦ inl (subst (λ (l : List ℕ). has_bit l n ≡ true) old a) | inr p ↦ inr p.1 ])),
      )
  | inr ne ↦
      let same : get_or (set rows k new) u [] ≡ get_or rows u [] = get_or-set_other rows k u new [] ne in (
        λ h. inl (subst (λ (l : List ℕ). has_bit l n ≡ true) same h),
        λ s. elim s [ inl a ↦ subst (λ (l : List ℕ). has_bit l n ≡ true) (sym same) a | inr p ↦ absurd (ne p.0) ],
      )
]

-- that of a name's number
pub refining_added : (names expanded refined : List (List ℕ)) (name chart : List ℕ) (rows : List (List ℕ)) (k : ℕ) (row new : List ℕ) → IsNumber refined name k → k < length rows → row ≡ get_or rows k []
    → IsGrown (HasBit row) (HasExpanded names expanded chart) (HasBit new)
    → IsGrown (λ (p : ℕ × ℕ). RowHas rows p.0 p.1) (λ (p : ℕ × ℕ). IsNumber refined name p.0 × HasExpanded names expanded chart p.1) (λ (p : ℕ × ℕ). RowHas (set rows k new) p.0 p.1)
refining_added names expanded refined name chart rows k row new number low is grown p =
    let both = row_changed rows k row new (HasExpanded names expanded chart) low is grown p.0 p.1 in (
      λ h. elim (both.0 h) [ inl a ↦ inl a | inr q ↦ inr (subst (IsNumber refined name) (sym q.0) number, q.1) ],
      λ s. both.1 (elim s [ inl a ↦ inl a | inr q ↦ inr (same_number refined name p.0 k q.0 number, q.1) ]),
    )

-- ---- all of them

-- numbers that two rows have are those of two charts that refine two instances
pub double_is : (names expanded refined : List (List ℕ)) (decls : List Decl) (rows : List (List ℕ)) → ((p : ℕ × ℕ) → RowHas rows p.0 p.1 ↔ OneHolds (DeclNumber names expanded refined) decls p)
    → ((name : List ℕ) → IsAmong refined name ↔ OneHolds Decomposes decls name) → (n : ℕ) → IsTwice rows n ↔ IsDouble names expanded decls n
double_is names expanded refined decls rows are named n = (to, from)
  where
    found : (u : ℕ) → RowHas rows u n → (d : Decl) × IsAmong decls d × IsNumber refined d.name u × OfRefining (λ chart. HasExpanded names expanded chart n) d.refined
    found u h =
        let o = one_of (DeclNumber names expanded refined) decls (u, n) ((are (u, n)).0 h) in
        let r = refining_of (λ chart. IsNumber refined o.0.name u × HasExpanded names expanded chart n) o.0.refined o.2 in
        (o.0, o.1, r.2.0, of_refining (λ chart. HasExpanded names expanded chart n) o.0.refined r.0 r.1 r.2.1)

    to : IsTwice rows n → IsDouble names expanded decls n
    to t =
        let a = found t.one t.first in
        let b = found t.other t.second in
        record {
          one = a.0;
          other = b.0;
          one_among = a.1;
          other_among = b.1;
          differs = λ e. t.differs (same_number refined b.0.name t.one t.other (subst (λ (x : List ℕ). IsNumber refined x t.one) e a.2) b.2);
          first = a.3;
          second = b.3;
        }

    row_of : (d : Decl) → IsAmong decls d → OfRefining (λ chart. HasExpanded names expanded chart n) d.refined → (u : ℕ) × IsNumber refined d.name u × RowHas rows u n
    row_of d m h =
        let r = refining_of (λ chart. HasExpanded names expanded chart n) d.refined h in
        let k = has_number refined d.name ((named d.name).1 ((decomposed_is decls d.name).1 (record { decl = d; declares = m; called = refl; refining = r.0; refines = r.1 }))) in
        (k.0, k.1, (are (k.0, n)).1 (one_from (DeclNumber names expanded refined) decls (k.0, n) d m (of_refining (λ chart. IsNumber refined d.name k.0 × HasExpanded names expanded chart n) d.refined r.0 r.1 (k.1, r.2))))

    from : IsDouble names expanded decls n → IsTwice rows n
    from d =
        let a = row_of d.one d.one_among d.first in
        let b = row_of d.other d.other_among d.second in
        record { one = a.0; other = b.0; differs = λ e. d.differs (same_name refined d.one.name d.other.name a.0 a.1 (subst (IsNumber refined d.other.name) (sym e) b.1)); first = a.2; second = b.2 }

pub taken_is : (names known expanded refined : List (List ℕ)) (decls : List Decl) (body : Body) (rows : List (List ℕ)) (start own named all : List ℕ) → start ≡ []
    → ((name : List ℕ) → IsAmong refined name ↔ OneHolds Decomposes decls name) → IsGrown (HasBit start) (OneHolds (OwnNumber known (IsAmong refined)) (covered body)) (HasBit own)
    → IsGrown (HasBit own) (OneHolds (HasExpanded names expanded) (level_names body)) (HasBit named) → ((p : ℕ × ℕ) → RowHas rows p.0 p.1 ↔ OneHolds (DeclNumber names expanded refined) decls p)
    → IsGrown (HasBit named) (IsTwice rows) (HasBit all) → (n : ℕ) → HasBit all n ↔ IsTaken names known expanded decls body n
taken_is names known expanded refined decls body rows start own named all none are owns refs rowed twice n = (
  λ b. elim ((twice n).0 b) [
    | inr t ↦ inr (inr ((double_is names expanded refined decls rows rowed are n).0 t))
    | inl c ↦ elim ((refs n).0 c) [
      | inr r ↦ inr (inl r)
      | inl d ↦ elim ((owns n).0 d) [ inr o ↦ inl (own_to o) | inl e ↦ absurd (true≢false (sym e ∙ ap (λ (l : List ℕ). has_bit l n) none ∙ none_had n)) ]
    ]
  ],
  λ s. (twice n).1 (elim s [
    | inl o ↦ inl ((refs n).1 (inl ((owns n).1 (inr (own_from o)))))
    | inr t ↦ elim t [ inl r ↦ inl ((refs n).1 (inr r)) | inr d ↦ inr ((double_is names expanded refined decls rows rowed are n).1 d) ]
  ]),
)
  where
    own_to : OneHolds (OwnNumber known (IsAmong refined)) (covered body) n → OneHolds (OwnNumber known (OneHolds Decomposes decls)) (covered body) n
    own_to = one_same (OwnNumber known (IsAmong refined)) (OwnNumber known (OneHolds Decomposes decls)) (covered body) n (λ x m p. (λ d. p.0 ((are x).1 d), p.1))

    own_from : OneHolds (OwnNumber known (OneHolds Decomposes decls)) (covered body) n → OneHolds (OwnNumber known (IsAmong refined)) (covered body) n
    own_from = one_same (OwnNumber known (OneHolds Decomposes decls)) (OwnNumber known (IsAmong refined)) (covered body) n (λ x m p. (λ d. p.0 ((are x).0 d), p.1))
