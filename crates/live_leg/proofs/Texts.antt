-- The texts among items.
use Rattle.std.proofs.Common.{◌≡◌, ℕ, true, true≢false, Option, None, Some, List, [], ◌∷◌, ◌++◌, refl, ap, sym, ◌∙◌, append_assoc}
use Rattle.std.proofs.lemmas.List.{append-nil}
use Rattle.std.specs.Prelude.{IfSome}
use Rattle.std.specs.Str.{is_utf8}
use Rattle.wire_spec.specs.Packets.{has_text}
use Rattle.stream_spec.specs.Ready.{Chunk}
use Rattle.live_leg.specs.declared.kinds.ItemKind.{ItemKind}
use Rattle.live_leg.specs.declared.items.LegItem.{LegItem}
use Rattle.live_leg.specs.declared.states.State.{State}
use Rattle.live_leg.specs.declared.states.State.TheVariants.{Idle, Giving, Blank, Parting, Ending, Over}
use Rattle.live_leg.specs.Stepping.{seen_as}
use Rattle.stream_spec.specs.Links.{Came, Datagram, Large, Quiet, Closed, Takes}
use Rattle.live_spec.specs.Told.{Hearing}
use Rattle.live_leg.specs.Texts.{HasText}
use Rattle.live_leg.specs.Items.{AreItems, AreTexts, Item, Text, Seen, Silent, End, Fault, fault_in, is_text, item_of, items_of, signal_of, text_in, texts_in}

pub texts_append : {F : Type 0} (leg : ℕ) (xs ys : List (Item F)) → texts_in leg (xs ++ ys) ≡ texts_in leg xs ++ texts_in leg ys
texts_append leg [] ys = refl
texts_append leg (x ∷ xs) ys = ap (λ cs. text_in leg x ++ cs) (texts_append leg xs ys) ∙ sym (append_assoc (text_in leg x) (texts_in leg xs) (texts_in leg ys))

-- one item more, with these texts
pub texts_more : {F : Type 0} (leg : ℕ) (xs : List (Item F)) (x : Item F) (cs : List Chunk) → text_in leg x ≡ cs → texts_in leg (xs ++ x ∷ []) ≡ texts_in leg xs ++ cs
texts_more leg xs x cs e = texts_append leg xs (x ∷ []) ∙ ap (λ c. texts_in leg xs ++ c) (append-nil (text_in leg x) ∙ e)

-- one item more, which is no text
pub texts_same : {F : Type 0} (leg : ℕ) (xs : List (Item F)) (x : Item F) → text_in leg x ≡ [] → texts_in leg (xs ++ x ∷ []) ≡ texts_in leg xs
texts_same leg xs x e = texts_more leg xs x [] e ∙ append-nil (texts_in leg xs)

pub all_texts : {F : Type 0} (xs : List (Item F)) (x : Item F) → AreTexts xs → is_text x ≡ true → AreTexts (xs ++ x ∷ [])
all_texts [] x a e = (e, tt)
all_texts (y ∷ xs) x a e = (a.0, all_texts xs x a.1 e)

pub some_text : {F : Type 0} (given : Option (ItemKind F)) (c : Chunk) → has_text c.text ≡ true → is_utf8 c.text ≡ true → IfSome given (λ kind. HasText kind c)
some_text None c h u = tt
some_text (Some kind) c h u = λ _. (h, u)

-- that all was given is no text
pub seen_text : {F : Type 0} (state : State) (c : Chunk) → HasText (seen_as {F = F} state) c
seen_text Idle c = λ e. absurd (cc e)
seen_text Giving c = λ e. absurd (cc e)
seen_text Blank c = λ e. absurd (cc e)
seen_text Parting c = λ e. absurd (cc e)
seen_text Ending c = λ e. absurd (cc e)
seen_text Over c = λ e. absurd (cc e)

pub items_append : {F : Type 0} (xs ys : List (LegItem F)) → items_of (xs ++ ys) ≡ items_of xs ++ items_of ys
items_append [] ys = refl
items_append (x ∷ xs) ys = ap (λ items. item_of x ∷ items) (items_append xs ys)

-- ---- faults
-- where the first items have none, it is that of the others
pub fault_behind : {F : Type 0} (xs ys : List (Item F)) → fault_in xs ≡ None → fault_in (xs ++ ys) ≡ fault_in ys
fault_behind [] ys e = refl
fault_behind (Text ready octets ∷ xs) ys e = fault_behind xs ys e
fault_behind (Seen ∷ xs) ys e = fault_behind xs ys e
fault_behind (Silent ∷ xs) ys e = fault_behind xs ys e
fault_behind (End ∷ xs) ys e = fault_behind xs ys e
fault_behind (Fault f ∷ xs) ys e = absurd (cc e)

-- where the others have none, it is that of the first items
pub fault_before : {F : Type 0} (xs ys : List (Item F)) → fault_in ys ≡ None → fault_in (xs ++ ys) ≡ fault_in xs
fault_before [] ys e = e
fault_before (Text ready octets ∷ xs) ys e = fault_before xs ys e
fault_before (Seen ∷ xs) ys e = fault_before xs ys e
fault_before (Silent ∷ xs) ys e = fault_before xs ys e
fault_before (End ∷ xs) ys e = fault_before xs ys e
fault_before (Fault f ∷ xs) ys e = refl

pub texts_calm : {F : Type 0} (xs : List (Item F)) → AreTexts xs → fault_in xs ≡ None
texts_calm [] a = refl
texts_calm (Text ready octets ∷ xs) a = texts_calm xs a.1
texts_calm (Seen ∷ xs) a = absurd (true≢false (sym a.0))
texts_calm (Silent ∷ xs) a = absurd (true≢false (sym a.0))
texts_calm (End ∷ xs) a = absurd (true≢false (sym a.0))
texts_calm (Fault f ∷ xs) a = absurd (true≢false (sym a.0))

signal_calm : {F : Type 0} (came : Came) → fault_in (signal_of {F = F} came ∷ []) ≡ None
signal_calm (Datagram octets) = refl
signal_calm Large = refl
signal_calm Quiet = refl
signal_calm Closed = refl

-- what is given take by take has none
pub items_calm : {F : Type 0} (h : Hearing) (takes : Takes) (items : List (Item F)) → AreItems h takes items → fault_in items ≡ None
items_calm h [] items a = ap fault_in a
items_calm h (t ∷ past) items a =
    ap fault_in a.2
    ∙ (fault_behind a.0 (a.1 ++ signal_of t.came ∷ []) (items_calm h past a.0 a.3)
    ∙ (fault_behind a.1 (signal_of t.came ∷ []) (texts_calm a.1 a.4) ∙ signal_calm t.came))
