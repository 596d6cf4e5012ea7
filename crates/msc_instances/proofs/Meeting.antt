-- What the tables of the parts that were met know when one part more is noted.
use Rattle.std.proofs.Common.{◌≡◌, ◌⊎◌, inl, inr, ◌↔◌, List, ℕ, ◌++◌, [], ◌∷◌, sym, refl, Option, Some, None, Bool, true, false, not, cond, ◌&&◌, subst, ap, ◌∙◌, IsTrue, Result, Ok, Err, IfOk}
use Rattle.std.proofs.lemmas.Bool.{or_cases, or_left, or_right, true≢false, and_parts}
use Rattle.std.proofs.lemmas.Slice.Eq.{bytes_eq-Decides}
use Rattle.std.specs.List.{list_any}
use Rattle.std.specs.Str.{bytes_eq}
use Rattle.msc_base.specs.Lists.{IsAmong}
use Rattle.msc_base.specs.NameTables.{with_name}
use Rattle.msc_instances.specs.declared.again.Met.{Met}
use Rattle.msc_instances.specs.declared.again.PartKey.{PartKey}
use Rattle.msc_instances.specs.contracts.again.PartKeyPartialEq.TheImpl.{eq-value}
use Rattle.msc_instances.specs.Meetings.{HasName, HasPart, HasKey, Knows}
use Rattle.msc_instances.specs.Parts.{NamedPart, Clashes, ExcludeEachOther}
use Rattle.list_facts.proofs.Tables.{among_with_name}

-- ---- one name more

-- ---- one key more

abbrev IsKey : PartKey → List ℕ → List ℕ → Type 0
IsKey k n c = (k.name.items ≡ n) × (k.column.items ≡ c)

key_tells : (a b : PartKey) → eq-value.it a b ≡ true → IsKey b a.name.items a.column.items
key_tells a b h =
    let t = and_parts (bytes_eq a.name.items b.name.items) (bytes_eq a.column.items b.column.items) h in
    (sym ((bytes_eq-Decides a.name.items b.name.items).0 t.0), sym ((bytes_eq-Decides a.column.items b.column.items).0 t.1))

tells_key : (a b : PartKey) → IsKey b a.name.items a.column.items → eq-value.it a b ≡ true
tells_key a b h =
    let x : bytes_eq a.name.items b.name.items ≡ true = (bytes_eq-Decides a.name.items b.name.items).1 (sym h.0) in
    let y : bytes_eq a.column.items b.column.items ≡ true = (bytes_eq-Decides a.column.items b.column.items).1 (sym h.1) in
    ap (λ (t : Bool). t && bytes_eq a.column.items b.column.items) x ∙ y

key_from_any : (keys : List PartKey) (a : PartKey) → list_any (eq-value.it a) keys ≡ true → HasKey keys a.name.items a.column.items
key_from_any [] a h = absurd (true≢false (sym h))
key_from_any (k ∷ keys) a h = elim (or_cases (eq-value.it a k) (list_any (eq-value.it a) keys) h) [
  | inl e ↦ inl (key_tells a k e)
  | inr r ↦ inr (key_from_any keys a r)
]

any_from_key : (keys : List PartKey) (a : PartKey) → HasKey keys a.name.items a.column.items → list_any (eq-value.it a) keys ≡ true
any_from_key [] a h = absurd h
any_from_key (k ∷ keys) a (inl e) = or_left (eq-value.it a k) (list_any (eq-value.it a) keys) (tells_key a k e)
any_from_key (k ∷ keys) a (inr r) = or_right (eq-value.it a k) (list_any (eq-value.it a) keys) (any_from_key keys a r)

key_snoc : (keys : List PartKey) (a : PartKey) (n c : List ℕ) → HasKey (keys ++ a ∷ []) n c → IsKey a n c ⊎ HasKey keys n c
key_snoc [] a n c (inl e) = inl e
key_snoc [] a n c (inr h) = absurd h
key_snoc (k ∷ keys) a n c (inl e) = inr (inl e)
key_snoc (k ∷ keys) a n c (inr h) = elim (key_snoc keys a n c h) [ inl e ↦ inl e | inr r ↦ inr (inr r) ]

snoc_key : (keys : List PartKey) (a : PartKey) (n c : List ℕ) → IsKey a n c ⊎ HasKey keys n c → HasKey (keys ++ a ∷ []) n c
snoc_key [] a n c (inl e) = inl e
snoc_key [] a n c (inr h) = absurd h
snoc_key (k ∷ keys) a n c (inl e) = inr (snoc_key keys a n c (inl e))
snoc_key (k ∷ keys) a n c (inr (inl e)) = inl e
snoc_key (k ∷ keys) a n c (inr (inr h)) = inr (snoc_key keys a n c (inr h))

same_key : (keys : List PartKey) (n m c d : List ℕ) → n ≡ m → c ≡ d → HasKey keys n c → HasKey keys m d
same_key keys n m c d e f h = subst (λ (x : List ℕ). HasKey keys m x) f (subst (λ (x : List ℕ). HasKey keys x c) e h)

key_with : (keys : List PartKey) (a : PartKey) (n c : List ℕ) → HasKey (cond (list_any (eq-value.it a) keys) keys (keys ++ a ∷ [])) n c ↔ (IsKey a n c ⊎ HasKey keys n c)
key_with keys a n c = by (list_any (eq-value.it a) keys) refl
  where
    by : (b : Bool) → list_any (eq-value.it a) keys ≡ b → HasKey (cond b keys (keys ++ a ∷ [])) n c ↔ (IsKey a n c ⊎ HasKey keys n c)
    by true e = (λ h. inr h, λ s. elim s [ inl is ↦ same_key keys a.name.items n a.column.items c is.0 is.1 (key_from_any keys a e) | inr h ↦ h ])
    by false e = (key_snoc keys a n c, snoc_key keys a n c)

-- ---- one part more

-- outside columns
pub knows_outside : (old new : Met) (before : List NamedPart) (part : NamedPart) (name : List ℕ) → Knows old before → part.name ≡ name → part.column ≡ None
    → new.names ≡ with_name old.names name → new.outside ≡ with_name old.outside name → new.inside.keys ≡ old.inside.keys → Knows new (part ∷ before)
knows_outside old new before part name k is none names outside inside = record {
  names = λ n. (
    λ h. elim ((among_with_name old.names name n).0 (subst (λ (ns : List (List ℕ)). IsAmong ns n) names h)) [ inl e ↦ inl (is ∙ sym e) | inr r ↦ inr ((k.names n).0 r) ],
    λ h. subst (λ (ns : List (List ℕ)). IsAmong ns n) (sym names) ((among_with_name old.names name n).1 (elim h [ inl e ↦ inl (sym e ∙ is) | inr r ↦ inr ((k.names n).1 r) ])),
  );
  outside = λ n. (
    λ h. elim ((among_with_name old.outside name n).0 (subst (λ (ns : List (List ℕ)). IsAmong ns n) outside h)) [ inl e ↦ inl (is ∙ sym e, none) | inr r ↦ inr ((k.outside n).0 r) ],
    λ h. subst (λ (ns : List (List ℕ)). IsAmong ns n) (sym outside) ((among_with_name old.outside name n).1 (elim h [ inl e ↦ inl (sym e.0 ∙ is) | inr r ↦ inr ((k.outside n).1 r) ])),
  );
  inside = λ n c. (
    λ h. inr ((k.inside n c).0 (subst (λ (ks : List PartKey). HasKey ks n c) inside h)),
    λ h. subst (λ (ks : List PartKey). HasKey ks n c) (sym inside) (elim h [ inl e ↦ absurd (never c (sym none ∙ e.1)) | inr r ↦ (k.inside n c).1 r ]),
  );
}
  where
    never : (c : List ℕ) → ◌≡◌ {A = Option (List ℕ)} None (Some c) → ⊥
    never c e = cc

-- in a column
pub knows_inside : (old new : Met) (before : List NamedPart) (part : NamedPart) (name column : List ℕ) (key : PartKey) → Knows old before → part.name ≡ name → part.column ≡ Some column
    → key.name.items ≡ name → key.column.items ≡ column → new.names ≡ with_name old.names name → new.outside ≡ old.outside
    → new.inside.keys ≡ cond (list_any (eq-value.it key) old.inside.keys) old.inside.keys (old.inside.keys ++ key ∷ []) → Knows new (part ∷ before)
knows_inside old new before part name column key k is some key_name key_column names outside inside = record {
  names = λ n. (
    λ h. elim ((among_with_name old.names name n).0 (subst (λ (ns : List (List ℕ)). IsAmong ns n) names h)) [ inl e ↦ inl (is ∙ sym e) | inr r ↦ inr ((k.names n).0 r) ],
    λ h. subst (λ (ns : List (List ℕ)). IsAmong ns n) (sym names) ((among_with_name old.names name n).1 (elim h [ inl e ↦ inl (sym e ∙ is) | inr r ↦ inr ((k.names n).1 r) ])),
  );
  outside = λ n. (
    λ h. inr ((k.outside n).0 (subst (λ (ns : List (List ℕ)). IsAmong ns n) outside h)),
    λ h. subst (λ (ns : List (List ℕ)). IsAmong ns n) (sym outside) (elim h [ inl e ↦ absurd (never (sym some ∙ e.1)) | inr r ↦ (k.outside n).1 r ]),
  );
  inside = λ n c. (
    λ h. elim ((key_with old.inside.keys key n c).0 (subst (λ (ks : List PartKey). HasKey ks n c) inside h)) [
      | inl e ↦ inl (is ∙ sym key_name ∙ e.0, some ∙ ap (λ (x : List ℕ). Some x) (sym key_column ∙ e.1))
      | inr r ↦ inr ((k.inside n c).0 r)
    ],
    λ h. subst (λ (ks : List PartKey). HasKey ks n c) (sym inside) ((key_with old.inside.keys key n c).1 (elim h [
      | inl e ↦ inl (key_name ∙ sym is ∙ e.0, key_column ∙ held column c (sym some ∙ e.1))
      | inr r ↦ inr ((k.inside n c).1 r)
    ])),
  );
}
  where
    never : ◌≡◌ {A = Option (List ℕ)} (Some column) None → ⊥
    never e = cc

    held : (a b : List ℕ) → ◌≡◌ {A = Option (List ℕ)} (Some a) (Some b) → a ≡ b
    held a b e = cc

-- ---- what clashes

pub clash_outside : (before : List NamedPart) (part : NamedPart) → part.column ≡ None → Clashes before part ↔ HasName before part.name
clash_outside [] part none = (λ h. h, λ h. h)
clash_outside (b ∷ before) part none =
    let rest = clash_outside before part none in
    (λ h. elim h [ inl e ↦ inl e.0 | inr r ↦ inr (rest.0 r) ], λ h. elim h [ inl e ↦ inl (e, all b.column part.column none) | inr r ↦ inr (rest.1 r) ])
  where
    all : (c d : Option (List ℕ)) → d ≡ None → ExcludeEachOther c d
    all None d e = tt
    all (Some c) None e = tt
    all (Some c) (Some d) e = absurd (never e)
      where
        never : ◌≡◌ {A = Option (List ℕ)} (Some d) None → ⊥
        never f = cc

pub clash_inside : (before : List NamedPart) (part : NamedPart) (column : List ℕ) → part.column ≡ Some column → Clashes before part ↔ (HasPart before part.name None ⊎ HasPart before part.name (Some column))
clash_inside [] part column some = (λ h. absurd h, λ h. elim h [ inl l ↦ l | inr r ↦ r ])
clash_inside (b ∷ before) part column some =
    let rest = clash_inside before part column some in (
      λ h. elim h [
        | inl e ↦ elim (in_one b.column part.column some e.1) [ inl l ↦ inl (inl (e.0, l)) | inr r ↦ inr (inl (e.0, r)) ]
        | inr r ↦ elim (rest.0 r) [ inl l ↦ inl (inr l) | inr m ↦ inr (inr m) ]
      ],
      λ h. elim h [
        | inl l ↦ elim l [ inl e ↦ inl (e.0, outer b.column part.column e.1) | inr m ↦ inr (rest.1 (inl m)) ]
        | inr r ↦ elim r [ inl e ↦ inl (e.0, inner b.column part.column e.1 some) | inr m ↦ inr (rest.1 (inr m)) ]
      ],
    )
  where
    in_one : (c d : Option (List ℕ)) → d ≡ Some column → ExcludeEachOther c d → (c ≡ None) ⊎ (c ≡ Some column)
    in_one None d e h = inl refl
    in_one (Some c) None e h = absurd (never e)
      where
        never : ◌≡◌ {A = Option (List ℕ)} None (Some column) → ⊥
        never f = cc
    in_one (Some c) (Some d) e h = inr (ap (λ (x : List ℕ). Some x) h ∙ e)

    outer : (c d : Option (List ℕ)) → c ≡ None → ExcludeEachOther c d
    outer None d e = tt
    outer (Some c) d e = absurd (never e)
      where
        never : ◌≡◌ {A = Option (List ℕ)} (Some c) None → ⊥
        never f = cc

    inner : (c d : Option (List ℕ)) → c ≡ Some column → d ≡ Some column → ExcludeEachOther c d
    inner None d e f = tt
    inner (Some c) None e f = tt
    inner (Some c) (Some d) e f = let one : c ≡ d = cc (e, f) in one

-- an answer said in other words
pub retold : {A E : Type 0} (answer : Result A E) (P Q : A → Type 0) → ((a : A) → P a → Q a) → IfOk answer P → IfOk answer Q
retold (Ok a) P Q f h = f a h
retold (Err e) P Q f h = tt

-- what the key says, where no part outside columns has the name
pub inside_told : (met : Met) (before : List NamedPart) (name column : List ℕ) (key : PartKey) (new : Bool) → Knows met before → key.name.items ≡ name → key.column.items ≡ column
    → (IsAmong met.outside name → ⊥) → new ≡ not (list_any (eq-value.it key) met.inside.keys) → IsTrue (not new) ↔ (HasPart before name None ⊎ HasPart before name (Some column))
inside_told met before name column key new k key_name key_column none added = (
  λ t. inr ((k.inside name column).0 (same_key met.inside.keys key.name.items name key.column.items column key_name key_column (key_from_any met.inside.keys key (held new _ added t)))),
  λ h. elim h [
    | inl o ↦ absurd (none ((k.outside name).1 o))
    | inr r ↦ known new _ added (any_from_key met.inside.keys key (same_key met.inside.keys name key.name.items column key.column.items (sym key_name) (sym key_column) ((k.inside name column).1 r)))
  ],
)
  where
    held : (b a : Bool) → b ≡ not a → IsTrue (not b) → a ≡ true
    held true a e h = absurd (true≢false (sym h))
    held false true e h = refl
    held false false e h = absurd (true≢false (sym e))

    known : (b a : Bool) → b ≡ not a → a ≡ true → IsTrue (not b)
    known true true e h = absurd (true≢false e)
    known true false e h = absurd (true≢false (sym h))
    known false a e h = refl
