-- One record more, and the groups of what was named.
use Rattle.std.proofs.Common.{◌≡◌, ℕ, suc, ◌+◌, ◌<◌, ◌≤◌, Bool, true, false, cond, List, [], ◌∷◌, ◌++◌, length, map, flat_map, get_or, refl, ap, sym, ◌∙◌, subst, arith, ◌⊎◌, inl, inr, nat_lt, length-append, append-nil}
use Rattle.std.specs.Prelude.{◌≢◌, ◌==◌, ◌||◌, not, Result, Ok, Err, OnOk, All, AllPairs, Option, None, Some, position}
use Rattle.std.specs.List.{list_any, filter_map, cons_option, position_or_len}
use Rattle.std.proofs.Math.ListN.{set}
use Rattle.std.proofs.Math.Seq.{get_or-append_seam, map-set_same}
use Rattle.std.proofs.lemmas.Bool.{true≢false, cases_lt, cases_eq, ltb-false, eqb-true as eq_is}
use Rattle.std.proofs.lemmas.Bool.Decides.{Decides-ltb}
use Rattle.std.proofs.lemmas.Grind.{flat_map-append}
use Rattle.std.proofs.lemmas.List.{map-append, length-map, get_or_default, get_or-map, get_or_append_left, get_or-set_same, get_or-set_other}
use Rattle.std.proofs.lemmas.List.Elements.{filter-append, All-push}
use Rattle.std.proofs.lemmas.List.Folds.{list_any_at}
use Rattle.std.proofs.lemmas.List.Quantifiers.{position-Some}
use Rattle.rtt_base.specs.declared.limits.TheConstants.{MOST_SOURCES}
use Rattle.wire_spec.specs.Dump.{Item, record_written, sent_item}
use Rattle.rtpdump_io.specs.InMemory.{IsRecord}
use Rattle.command_spec.specs.Firsts.{Firsts, is_kept, has_room, with_kept, with_other, with_name, with_names}
use Rattle.command_spec.specs.Streams.{Sort, sort_of, named, naming, is_name}
use Rattle.rtt_show.specs.declared.groups.Group.{Group}
use Rattle.rtt_show.specs.declared.groups.Groups.{Groups}
use Rattle.rtt_show.specs.Groups.{one_group, with_record, AddedAt, GroupHolds, firsts_in, Grouped}
use Rattle.rtt_show.proofs.Firsts.{eq_same, none_other, apart}
use Rattle.rtt_show.proofs.Surveying.{firsts_more}
use Rattle.command_spec.proofs.SentBack.{all_push}

-- ---- what is named
named_none : (of : Sort → Option ℕ) (items : List Item) (item : Item) → of (sort_of item) ≡ None → named of (items ++ item ∷ []) ≡ named of items
named_none of items item e = firsts_more (λ x. of (sort_of x)) items item ∙ ap (λ (o : Option ℕ). with_names (named of items) (cons_option o [])) e

named_some : (of : Sort → Option ℕ) (items : List Item) (item : Item) (name : ℕ) → of (sort_of item) ≡ Some name → named of (items ++ item ∷ []) ≡ with_name (named of items) name
named_some of items item name e = firsts_more (λ x. of (sort_of x)) items item ∙ ap (λ (o : Option ℕ). with_names (named of items) (cons_option o [])) e

naming_other : (of : Sort → Option ℕ) (x : ℕ) (items : List Item) (item : Item) → is_name x (of (sort_of item)) ≡ false → naming of x (items ++ item ∷ []) ≡ naming of x items
naming_other of x items item e =
    filter-append (λ i. is_name x (of (sort_of i))) items (item ∷ [])
    ∙ (ap (λ b. naming of x items ++ cond b (item ∷ []) []) e ∙ append-nil (naming of x items))

naming_one : (of : Sort → Option ℕ) (x : ℕ) (items : List Item) (item : Item) → is_name x (of (sort_of item)) ≡ true → naming of x (items ++ item ∷ []) ≡ naming of x items ++ item ∷ []
naming_one of x items item e =
    filter-append (λ i. is_name x (of (sort_of i))) items (item ∷ [])
    ∙ ap (λ b. naming of x items ++ cond b (item ∷ []) []) e

is_name_same : (x : ℕ) → is_name x (Some x) ≡ true
is_name_same x = eq_same x

-- while there is room, nothing named what is not kept
fresh_from : (of : Sort → Option ℕ) (f : Firsts) (x : ℕ) (items : List Item) → is_kept (with_names f (filter_map (λ i. of (sort_of i)) items)) x ≡ false → has_room (with_names f (filter_map (λ i. of (sort_of i)) items)) ≡ true → naming of x items ≡ []
fresh_from of f x [] k r = refl
fresh_from of f x (item ∷ items) k r = go (of (sort_of item)) k r (λ g. fresh_from of g x items)
  where
    go : (o : Option ℕ) → is_kept (with_names f (cons_option o (filter_map (λ i. of (sort_of i)) items))) x ≡ false → has_room (with_names f (cons_option o (filter_map (λ i. of (sort_of i)) items))) ≡ true
        → ((g : Firsts) → is_kept (with_names g (filter_map (λ i. of (sort_of i)) items)) x ≡ false → has_room (with_names g (filter_map (λ i. of (sort_of i)) items)) ≡ true → naming of x items ≡ [])
        → cond (is_name x o) (item ∷ naming of x items) (naming of x items) ≡ []
    go None k r more = more f k r
    go (Some n) k r more =
        ap (λ b. cond b (item ∷ naming of x items) (naming of x items)) (none_other f n x (filter_map (λ i. of (sort_of i)) items) k r)
        ∙ more (with_name f n) k r

-- ---- groups
names_of : Groups → List ℕ
names_of g = map (λ group. group.name) g.groups.items

-- a record that names nothing
holds_passed : (of : Sort → Option ℕ) (items : List Item) (item : Item) (group : Group) → is_name group.name (of (sort_of item)) ≡ false → GroupHolds of items group → GroupHolds of (items ++ item ∷ []) group
holds_passed of items item group e h =
    record { records = h.records; is = h.is; each = h.each; are = h.are ∙ sym (naming_other of group.name items item e) }

pub passed : (of : Sort → Option ℕ) (limit : ℕ) (g : Groups) (items : List Item) (item : Item) → of (sort_of item) ≡ None → Grouped of limit g items → Grouped of limit g (items ++ item ∷ [])
passed of limit g items item e w = record {
  below = w.below;
  firsts = w.firsts ∙ sym (named_none of items item e);
  each = λ k d low. holds_passed of items item (get_or g.groups.items k d) (ap (is_name (get_or g.groups.items k d).name) e) (w.each k d low);
}

written_more : (records : List (ℕ × List ℕ)) (r : ℕ × List ℕ) → flat_map record_written (records ++ r ∷ []) ≡ flat_map record_written records ++ record_written r
written_more records r = flat_map-append record_written records (r ∷ []) ∙ ap (λ (xs : List ℕ). flat_map record_written records ++ xs) (append-nil (record_written r))

holds_more : (of : Sort → Option ℕ) (items : List Item) (r : ℕ × List ℕ) (group : Group) → IsRecord r → of (sort_of (sent_item r)) ≡ Some group.name → GroupHolds of items group → GroupHolds of (items ++ sent_item r ∷ []) (with_record group r)
holds_more of items r group is e h = record {
  records = h.records ++ r ∷ [];
  is = ap (λ xs. xs ++ record_written r) h.is ∙ sym (written_more h.records r);
  each = all_push IsRecord h.records r h.each is;
  are = map-append sent_item h.records (r ∷ []) ∙ (ap (λ xs. xs ++ sent_item r ∷ []) h.are ∙ sym (naming_one of group.name items (sent_item r) (ap (is_name group.name) e ∙ is_name_same group.name)));
}

holds_first : (of : Sort → Option ℕ) (items : List Item) (r : ℕ × List ℕ) (name : ℕ) → IsRecord r → of (sort_of (sent_item r)) ≡ Some name → naming of name items ≡ [] → GroupHolds of (items ++ sent_item r ∷ []) (one_group name r)
holds_first of items r name is e none = record {
  records = r ∷ [];
  is = sym (append-nil (record_written r));
  each = (is, tt);
  are = sym (naming_one of name items (sent_item r) (ap (is_name name) e ∙ is_name_same name) ∙ ap (λ xs. xs ++ sent_item r ∷ []) none);
}

name_at : (gs : List Group) (k : ℕ) (d : Group) → k < length gs → get_or (map (λ group. group.name) gs) k d.name ≡ (get_or gs k d).name
name_at gs k d low = get_or-map (λ group. group.name) gs k d d.name low

-- the names differ
differ : (of : Sort → Option ℕ) (limit : ℕ) (g : Groups) (items : List Item) → Grouped of limit g items → AllPairs (λ a b. a ≢ b) (map (λ group. group.name) g.groups.items)
differ of limit g items w = subst (λ (f : Firsts). AllPairs (λ a b. a ≢ b) f.kept) (sym w.firsts) (apart (record { kept = []; others = 0 }) (filter_map (λ i. of (sort_of i)) items) (λ i j d low high. absurd (omega (arith, high))))

other_name : (of : Sort → Option ℕ) (limit : ℕ) (g : Groups) (items : List Item) (j k : ℕ) (d : Group) → Grouped of limit g items → j < length g.groups.items → k < length g.groups.items → j ≢ k → (get_or g.groups.items j d).name ≢ (get_or g.groups.items k d).name
other_name of limit g items j k d w low high apart_jk same =
    let gs = g.groups.items in
    let n = length-map gs (λ group. group.name) in
    let a = name_at gs j d low in
    let b = name_at gs k d high in
    elim (cases_lt j k) [
      | inl below ↦ differ of limit g items w j k d.name below (omega (arith, n, high)) (a ∙ (same ∙ sym b))
      | inr over ↦
          let above : k < j = neither over in
          differ of limit g items w k j d.name above (omega (arith, n, low)) (b ∙ (sym same ∙ sym a))
    ]
  where
    neither : k ≤ j → k < j
    neither over = elim (cases_lt k j) [ inl below ↦ below | inr same_or_less ↦ absurd (apart_jk (omega (arith, over, same_or_less))) ]

not_name : (name other : ℕ) → (other ≡ name → ⊥) → is_name other (Some name) ≡ false
not_name name other n = go (name == other) refl
  where
    go : (b : Bool) → (name == other) ≡ b → b ≡ false
    go false e = refl
    go true e = absurd (n (sym (eq_is name other e)))

-- ---- one record more that names something
pub grouped_at : (of : Sort → Option ℕ) (limit : ℕ) (old new : Groups) (items : List Item) (name place : ℕ) (r : ℕ × List ℕ) → IsRecord r → of (sort_of (sent_item r)) ≡ Some name
    → position (λ group. group.name == name) old.groups.items ≡ Some place → AddedAt place r old.groups.items new.groups.items → new.others ≡ old.others → Grouped of limit old items → Grouped of limit new (items ++ sent_item r ∷ [])
grouped_at of limit old new items name place r is e p a same w = record {
  firsts = firsts_are ∙ (w.firsts ∙ sym (named_some of items (sent_item r) name e ∙ kept_stays));
  below = subst (All (λ x. x < limit)) (sym same_names) w.below;
  each = λ k d low. subst (λ (gs : List Group). GroupHolds of (items ++ sent_item r ∷ []) (get_or gs k d)) (sym a.is) (each k d (omega (arith, low, size)));
}
  where
    gs : List Group
    gs = old.groups.items

    found : (place < length gs) × ((get_or gs place a.group).name == name) ≡ true × ((k : ℕ) → k < place → ((get_or gs k a.group).name == name) ≡ false)
    found = position-Some (λ group. group.name == name) gs place a.group p

    name_is : a.group.name ≡ name
    name_is = sym (ap (λ (x : Group). x.name) a.there) ∙ eq_is (get_or gs place a.group).name name found.1

    same_names : map (λ group. group.name) new.groups.items ≡ map (λ group. group.name) gs
    same_names = ap (map (λ group. group.name)) a.is ∙ map-set_same (λ group. group.name) gs place (with_record a.group r) a.group (ap (λ (x : Group). x.name) (sym a.there))

    firsts_are : firsts_in new ≡ firsts_in old
    firsts_are = ap (λ ns. record { kept = ns; others = new.others }) same_names ∙ ap (λ n. record { kept = map (λ group. group.name) gs; others = n }) same

    is_there : is_kept (named of items) name ≡ true
    is_there =
        ap (λ f. is_kept f name) (sym w.firsts)
        ∙ list_any_at (λ x. x == name) (map (λ group. group.name) gs) place a.group.name (omega (arith, length-map gs (λ group. group.name), found.0)) (ap (λ x. x == name) (name_at gs place a.group found.0) ∙ found.1)

    kept_stays : with_name (named of items) name ≡ named of items
    kept_stays = ap (λ b. cond b (named of items) (cond (has_room (named of items)) (with_kept (named of items) name) (with_other (named of items)))) is_there

    size : length new.groups.items ≡ length gs
    size = sym (length-map new.groups.items (λ group. group.name)) ∙ (ap (λ (xs : List ℕ). length xs) same_names ∙ length-map gs (λ group. group.name))

    each : (k : ℕ) (d : Group) → k < length gs → GroupHolds of (items ++ sent_item r ∷ []) (get_or (set gs place (with_record a.group r)) k d)
    each k d low = by_place (cases_eq k place)
      where
        by_place : (k ≡ place) ⊎ (k ≡ place → ⊥) → GroupHolds of (items ++ sent_item r ∷ []) (get_or (set gs place (with_record a.group r)) k d)
        by_place (inl here) =
            subst (GroupHolds of (items ++ sent_item r ∷ [])) (sym (ap (λ j. get_or (set gs place (with_record a.group r)) j d) here ∙ get_or-set_same gs place (with_record a.group r) d found.0))
            (holds_more of items r a.group is (e ∙ ap Some (sym name_is)) (subst (GroupHolds of items) a.there (w.each place a.group found.0)))
        by_place (inr there) =
            subst (GroupHolds of (items ++ sent_item r ∷ [])) (sym (get_or-set_other gs place k (with_record a.group r) d there))
            (holds_passed of items (sent_item r) (get_or gs k d) (ap (is_name (get_or gs k d).name) e ∙ not_name name (get_or gs k d).name (λ s. other_name of limit old items k place d w low found.0 there (s ∙ (sym name_is ∙ sym (ap (λ (x : Group). x.name) at_place))))) (w.each k d low))
          where
            at_place : get_or gs place d ≡ a.group
            at_place = get_or_default gs place d a.group found.0 ∙ a.there

none_of : {X : Type 0} (p : X → Bool) (xs : List X) → length xs ≤ position_or_len p xs → list_any p xs ≡ false
none_of p [] l = refl
none_of p (x ∷ xs) l = go (p x) l (none_of p xs)
  where
    go : (b : Bool) → length (x ∷ xs) ≤ cond (not b) (1 + position_or_len p xs) 0 → (length xs ≤ position_or_len p xs → list_any p xs ≡ false) → (b || list_any p xs) ≡ false
    go true l more = absurd (omega (arith, l))
    go false l more = more (omega (arith, l))

any_name : (gs : List Group) (name : ℕ) → list_any (λ x. x == name) (map (λ group. group.name) gs) ≡ list_any (λ group. group.name == name) gs
any_name [] name = refl
any_name (g ∷ gs) name = ap (λ b. (g.name == name) || b) (any_name gs name)

none_placed : (gs : List Group) (name : ℕ) → None ≡ position (λ group. group.name == name) gs → list_any (λ x. x == name) (map (λ group. group.name) gs) ≡ false
none_placed gs name e = any_name gs name ∙ none_of p gs (go (position_or_len p gs) (length gs) (nat_lt (position_or_len p gs) (length gs)) refl e)
  where
    p : Group → Bool
    p group = group.name == name

    go : (a b : ℕ) (t : Bool) → nat_lt a b ≡ t → None ≡ cond t (Some a) None → b ≤ a
    go a b true lt h = absurd (cc)
    go a b false lt h = ltb-false a b lt

not_below : (a b : ℕ) → (a < b → ⊥) → nat_lt a b ≡ false
not_below a b n = go (nat_lt a b) refl
  where
    go : (t : Bool) → nat_lt a b ≡ t → t ≡ false
    go true e = absurd (n ((Decides-ltb a b).0 e))
    go false e = refl

none_at : (gs : List Group) (name k : ℕ) (d : Group) → list_any (λ x. x == name) (map (λ group. group.name) gs) ≡ false → k < length gs → (get_or gs k d).name ≡ name → ⊥
none_at gs name k d n low same =
    true≢false (sym (list_any_at (λ x. x == name) (map (λ group. group.name) gs) k d.name (omega (arith, length-map gs (λ group. group.name), low)) (ap (λ x. x == name) (name_at gs k d low ∙ same) ∙ is_name_same name)) ∙ n)

-- a name that has no group was not named
not_named : (of : Sort → Option ℕ) (limit : ℕ) (groups : Groups) (items : List Item) (name : ℕ) → None ≡ position (λ group. group.name == name) groups.groups.items → Grouped of limit groups items
    → is_kept (named of items) name ≡ false
not_named of limit groups items name unplaced w = ap (λ f. is_kept f name) (sym w.firsts) ∙ none_placed groups.groups.items name unplaced

pub grouped_new : (of : Sort → Option ℕ) (limit : ℕ) (old new : Groups) (items : List Item) (name : ℕ) (r : ℕ × List ℕ) → IsRecord r → name < limit → of (sort_of (sent_item r)) ≡ Some name
    → None ≡ position (λ group. group.name == name) old.groups.items → length old.groups.items < MOST_SOURCES
    → new.groups.items ≡ old.groups.items ++ one_group name r ∷ [] → new.others ≡ old.others → Grouped of limit old items → Grouped of limit new (items ++ sent_item r ∷ [])
grouped_new of limit old new items name r is small e unplaced room n same w = record {
  firsts = firsts_are ∙ sym (named_some of items (sent_item r) name e ∙ one_kept);
  below = subst (All (λ x. x < limit)) (sym names_are) (All-push (λ x. x < limit) (map (λ group. group.name) gs) name w.below small);
  each = λ k d low. subst (λ (xs : List Group). GroupHolds of (items ++ sent_item r ∷ []) (get_or xs k d)) (sym n) (each k d (omega (arith, low, ap (λ (xs : List Group). length xs) n, length-append gs (one_group name r ∷ []))));
}
  where
    gs : List Group
    gs = old.groups.items

    has_one : has_room (named of items) ≡ true
    has_one = ap has_room (sym w.firsts) ∙ (ap (λ k. nat_lt k MOST_SOURCES) (length-map gs (λ group. group.name)) ∙ (Decides-ltb (length gs) MOST_SOURCES).1 room)

    one_kept : with_name (named of items) name ≡ with_kept (named of items) name
    one_kept =
        ap (λ b. cond b (named of items) (cond (has_room (named of items)) (with_kept (named of items) name) (with_other (named of items)))) (not_named of limit old items name unplaced w)
        ∙ ap (λ b. cond b (with_kept (named of items) name) (with_other (named of items))) has_one

    names_are : map (λ group. group.name) new.groups.items ≡ map (λ group. group.name) gs ++ name ∷ []
    names_are = ap (map (λ group. group.name)) n ∙ map-append (λ group. group.name) gs (one_group name r ∷ [])

    firsts_are : firsts_in new ≡ with_kept (named of items) name
    firsts_are =
        (ap (λ xs. record { kept = xs; others = new.others }) names_are
        ∙ (ap (λ k. record { kept = map (λ group. group.name) gs ++ name ∷ []; others = k }) same
        ∙ ap (λ f. with_kept f name) w.firsts))

    each : (k : ℕ) (d : Group) → k < length gs + 1 → GroupHolds of (items ++ sent_item r ∷ []) (get_or (gs ++ one_group name r ∷ []) k d)
    each k d high = elim (cases_lt k (length gs)) [
      | inl below ↦
          subst (GroupHolds of (items ++ sent_item r ∷ [])) (sym (get_or_append_left gs (one_group name r ∷ []) d k below))
          (holds_passed of items (sent_item r) (get_or gs k d) (ap (is_name (get_or gs k d).name) e ∙ not_name name (get_or gs k d).name (none_at gs name k d (none_placed gs name unplaced) below)) (w.each k d below))
      | inr over ↦
          let last : k ≡ length gs = omega (arith, over, high) in
          subst (GroupHolds of (items ++ sent_item r ∷ [])) (sym (ap (λ j. get_or (gs ++ one_group name r ∷ []) j d) last ∙ get_or-append_seam gs (one_group name r) [] d))
          (holds_first of items r name is e (fresh_from of (record { kept = []; others = 0 }) name items (not_named of limit old items name unplaced w) has_one))
    ]

pub grouped_other : (of : Sort → Option ℕ) (limit : ℕ) (old new : Groups) (items : List Item) (name : ℕ) (r : ℕ × List ℕ) → of (sort_of (sent_item r)) ≡ Some name
    → None ≡ position (λ group. group.name == name) old.groups.items → (length old.groups.items < MOST_SOURCES → ⊥)
    → new.groups.items ≡ old.groups.items → new.others ≡ old.others + 1 → Grouped of limit old items → Grouped of limit new (items ++ sent_item r ∷ [])
grouped_other of limit old new items name r e unplaced over n same w = record {
  firsts = firsts_are ∙ sym (named_some of items (sent_item r) name e ∙ one_other);
  below = subst (All (λ x. x < limit)) (sym (ap (map (λ group. group.name)) n)) w.below;
  each = λ k d low. subst (λ (xs : List Group). GroupHolds of (items ++ sent_item r ∷ []) (get_or xs k d)) (sym n)
      (let below : k < length gs = omega (arith, low, ap (λ (xs : List Group). length xs) n) in
      holds_passed of items (sent_item r) (get_or gs k d) (ap (is_name (get_or gs k d).name) e ∙ not_name name (get_or gs k d).name (none_at gs name k d (none_placed gs name unplaced) below)) (w.each k d below));
}
  where
    gs : List Group
    gs = old.groups.items

    has_none : has_room (named of items) ≡ false
    has_none = ap has_room (sym w.firsts) ∙ (ap (λ k. nat_lt k MOST_SOURCES) (length-map gs (λ group. group.name)) ∙ not_below (length gs) MOST_SOURCES over)

    one_more : old.others + 1 ≡ suc old.others
    one_more = omega arith

    one_other : with_name (named of items) name ≡ with_other (named of items)
    one_other =
        ap (λ b. cond b (named of items) (cond (has_room (named of items)) (with_kept (named of items) name) (with_other (named of items)))) (not_named of limit old items name unplaced w)
        ∙ ap (λ b. cond b (with_kept (named of items) name) (with_other (named of items))) has_none

    firsts_are : firsts_in new ≡ with_other (named of items)
    firsts_are =
        ap (λ xs. record { kept = map (λ group. group.name) xs; others = new.others }) n
        ∙ (ap (λ k. record { kept = map (λ group. group.name) gs; others = k }) (same ∙ one_more)
        ∙ ap with_other w.firsts)

-- what follows where all went well
pub on_ok : {A E : Type 0} {P Q : Type 0} (r : Result A E) → (P → Q) → OnOk r P → OnOk r Q
on_ok (Ok x) f p = f p
on_ok (Err e) f p = tt
