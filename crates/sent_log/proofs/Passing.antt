-- Octets on their way to a sink, through a page.
use Rattle.std.proofs.Common.{Result, Ok, Err, false, ◌≡◌, ℕ, List, [], ◌++◌, take, append_assoc, refl, ap, sym, ◌∙◌}
use Rattle.std.specs.Prelude.{OnOk, OnErr, is_err}
use Rattle.std.proofs.lemmas.List.{append-nil}
use Rattle.rtt_io.specs.Fronts.{TakesFront}
use Rattle.sent_log.specs.FileWriting.{HoldsRest}
use Rattle.wire_spec.proofs.Plain.{front_of_more, front_behind}

-- all is in the page
pub nothing_taken : (took page : List ℕ) → HoldsRest took took page page
nothing_taken took page = record { front = []; taken = sym (append-nil took); rest = refl }

-- the page was taken
pub page_taken : (before took page : List ℕ) → took ≡ before ++ page → HoldsRest before took [] page
page_taken before took page e = record { front = page; taken = e; rest = sym (append-nil page) }

-- of what the page held, a part was taken
pub taken_on : (before middle took page rest octets : List ℕ) → HoldsRest before middle page octets → HoldsRest middle took rest page → HoldsRest before took rest octets
taken_on before middle took page rest octets h k = record {
  front = h.front ++ k.front;
  taken = k.taken ∙ (ap (λ (xs : List ℕ). xs ++ k.front) h.taken ∙ append_assoc before h.front k.front);
  rest = h.rest ∙ (ap (λ (xs : List ℕ). h.front ++ xs) k.rest ∙ sym (append_assoc h.front k.front rest));
}

-- more comes into the page
pub more_held : (before took page octets more : List ℕ) → HoldsRest before took page octets → HoldsRest before took (page ++ more) (octets ++ more)
more_held before took page octets more h = record {
  front = h.front;
  taken = h.taken;
  rest = ap (λ (xs : List ℕ). xs ++ more) h.rest ∙ append_assoc h.front page more;
}

-- what the page held is taken at last
pub all_taken : (before middle took page octets : List ℕ) → HoldsRest before middle page octets → took ≡ middle ++ page → took ≡ before ++ octets
all_taken before middle took page octets h e =
    e ∙ (ap (λ (xs : List ℕ). xs ++ page) h.taken ∙ (append_assoc before h.front page ∙ ap (λ (xs : List ℕ). before ++ xs) (sym h.rest)))

-- ---- fronts
-- a front of the page was taken
pub front_taken : (before middle took page octets : List ℕ) → HoldsRest before middle page octets → TakesFront middle took page → TakesFront before took octets
front_taken before middle took page octets h f =
    let r = front_behind f.0 h.front page in (
      r.0,
      f.1 ∙ (ap (λ (xs : List ℕ). xs ++ take f.0 page) h.taken ∙ (append_assoc before h.front (take f.0 page)
          ∙ ap (λ (xs : List ℕ). before ++ xs) (r.1 ∙ ap (λ (xs : List ℕ). take r.0 xs) (sym h.rest)))),
    )

-- it is one of more octets too
pub front_before : (before took octets more : List ℕ) → TakesFront before took octets → TakesFront before took (octets ++ more)
front_before before took octets more f =
    let r = front_of_more f.0 octets more in
    (r.0, f.1 ∙ ap (λ (xs : List ℕ). before ++ xs) r.1)

-- ---- where a call failed, or not
pub ok_gives : {A B : Type 0} (P : Type 0) (r : Result A B) → is_err r ≡ false → OnOk r P → P
ok_gives P (Ok a) e p = p
ok_gives P (Err b) e p = absurd (cc e)

pub ok_then : {A B : Type 0} (P Q : Type 0) (r : Result A B) → (P → Q) → OnOk r P → OnOk r Q
ok_then P Q (Ok a) f p = f p
ok_then P Q (Err b) f p = tt

pub err_then : {A B : Type 0} (P Q : Type 0) (r : Result A B) → (P → Q) → OnErr r P → OnErr r Q
err_then P Q (Ok a) f p = tt
err_then P Q (Err b) f p = f p
