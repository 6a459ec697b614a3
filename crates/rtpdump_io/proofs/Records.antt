-- The answers of a reader, as the records that they stand for, and a reading of one record after another.
use Rattle.std.proofs.Common.{◌≡◌, ◌≤◌, ℕ, ◌+◌, true, false, List, [], ◌∷◌, ◌++◌, length, refl, sym, ap, ◌∙◌, arith, append_assoc, append-nil, length-append, Option, Result, Ok, Err, Some, None}
use Rattle.std.specs.Prelude.{IfSome}
use Rattle.std.specs.Result.{IsErrAnd}
use Rattle.std.proofs.lemmas.Result.{err_from_is_err_and}
use Rattle.std.proofs.lemmas.Bool.{true≢false}
use Rattle.wire_spec.specs.Dump.{Item, Recording, with_item}
use Rattle.rtpdump_io.specs.declared.items.DumpItem.{DumpItem}
use Rattle.rtpdump_io.specs.declared.items.DumpItem.TheVariants.{Packet, Rtcp, Cut, Large, End}
use Rattle.rtpdump_io.specs.declared.items.RecordingFault.{RecordingFault}
use Rattle.rtpdump_io.specs.declared.items.RecordingFault.TheVariants.{NoMemory}
use Rattle.rtpdump_io.specs.declared.readers.DumpReader.{DumpReader}
use Rattle.rtpdump_io.specs.declared.readers.Stage.{Stage}
use Rattle.rtpdump_io.specs.declared.readers.Stage.TheVariants.{Opening, Records, Ended}
use Rattle.rtpdump_io.specs.Reading.{Gives, is_last, is_ended, is_over, answers_left, coming, most_answers, nothing, source_of, to_come}
use Rattle.rtpdump_io.specs.Answers.{record_of, is_end}
use Rattle.rtpdump_io.specs.Input.{unread}
use Rattle.rtpdump_io.specs.Calls.{Came, Reads, ReadsRecord, ReadsToEnd, SomeCame, unless_end}

-- what an answer that is no end says of what was to come
pub gives_item : (item : DumpItem) (out : List ℕ) (old new : Recording) → is_end item ≡ false → Gives (Ok item) out old new → old ≡ with_item (record_of item out) new
gives_item (Packet at) out old new e g = g
gives_item (Rtcp at) out old new e g = g
gives_item (Cut at) out old new e g = g
gives_item (Large at) out old new e g = g
gives_item End out old new e g = absurd (true≢false e)

-- an answer that is no end is not the last
pub not_end : (item : DumpItem) → (item ≡ End → ⊥) → is_end item ≡ false
not_end (Packet at) n = refl
not_end (Rtcp at) n = refl
not_end (Cut at) n = refl
not_end (Large at) n = refl
not_end End n = absurd (n refl)

pub not_last : (item : DumpItem) → is_end item ≡ false → is_last (Ok item) ≡ false
not_last (Packet at) e = refl
not_last (Rtcp at) e = refl
not_last (Cut at) e = refl
not_last (Large at) e = refl
not_last End e = absurd (true≢false e)

-- more answers do not come
pub most_few : (stage : Stage) (byte : ℕ) → answers_left stage byte ≤ 4194306
most_few Opening byte = omega arith
most_few Records byte = omega arith
most_few Ended byte = omega arith

no_more : (stage : Stage) (limit byte : ℕ) (octets : List ℕ) → is_over stage ≡ true → coming stage limit byte octets ≡ nothing
no_more Opening limit byte octets over = absurd (true≢false (sym over))
no_more Records limit byte octets over = absurd (true≢false (sym over))
no_more Ended limit byte octets over = refl

-- these records came, and of the recording the rest is still to come, where this is told
pub record ReadSome {S : Type 0} (tells : Type 0) (left : S → List ℕ) (faults : S → ℕ) (name : S → List ℕ) (before now : DumpReader S) (items : List Item) : Type 0 where
  pub few : length items + most_answers now ≤ 4194306
  pub calm : faults (source_of now) ≡ faults (source_of before)
  pub same_name : name (source_of now) ≡ name (source_of before)
  pub is : tells → to_come left before ≡ record { items = items ++ (to_come left now).items; fault = (to_come left now).fault }

module _ {S : Type 0} (tells : Type 0) (left : S → List ℕ) (faults : S → ℕ) (name : S → List ℕ) where
  -- ---- one call
  answered : (old new : DumpReader S) (out : List ℕ) (item : DumpItem) (found : Option DumpItem) → (tells → Came found out (to_come left old) (to_come left new)) → IfSome found (λ i. is_end i ≡ false)
      → Reads tells left faults name old new out (Ok item) → ReadsRecord tells left faults name old new out (Ok found)
  answered old new out item found came more r = record {
    came = came;
    more = more;
    nearer = some found r.nearer;
    fault = λ t. tt;
    failed = tt;
    calm = r.calm;
    never_falls = r.never_falls;
    same_name = r.same_name;
  }
    where
      some : {P : Type 0} (found : Option DumpItem) → P → IfSome found (λ i. P)
      some (Some i) p = p
      some None p = tt

  pub item_read : (old new : DumpReader S) (out : List ℕ) (item : DumpItem) → Reads tells left faults name old new out (Ok item) → ReadsRecord tells left faults name old new out (Ok (unless_end item))
  item_read old new out (Packet at) r = answered old new out (Packet at) (Some (Packet at)) r.gives refl r
  item_read old new out (Rtcp at) r = answered old new out (Rtcp at) (Some (Rtcp at)) r.gives refl r
  item_read old new out (Cut at) r = answered old new out (Cut at) (Some (Cut at)) r.gives refl r
  item_read old new out (Large at) r = answered old new out (Large at) (Some (Large at)) r.gives refl r
  item_read old new out End r = answered old new out End None r.gives tt r

  -- behind the last answer
  pub ended_read : (old : DumpReader S) (out : List ℕ) → is_ended old ≡ true → ReadsRecord tells left faults name old old out (Ok None)
  ended_read old out over = record {
    came = λ t. no_more old.stage old.limit old.offset (unread left old.input) over;
    more = tt;
    nearer = tt;
    fault = λ t. tt;
    failed = tt;
    calm = refl;
    never_falls = omega arith;
    same_name = refl;
  }

  -- ---- one after another
  pub none_read : (before : DumpReader S) → ReadSome tells left faults name before before []
  none_read before = record {
    few = omega (arith, most_few before.stage before.offset);
    calm = refl;
    same_name = refl;
    is = λ t. refl;
  }

  module _ (before now next : DumpReader S) (items : List Item) (out : List ℕ) (r : ReadSome tells left faults name before now items) where
    -- one more
    pub more_read : (item : DumpItem) (octets : List ℕ) → octets ≡ out → ReadsRecord tells left faults name now next out (Ok (Some item)) → ReadSome tells left faults name before next (items ++ record_of item octets ∷ [])
    more_read item octets same c = record {
      few = omega (arith, length-append items (record_of item octets ∷ []), c.nearer, r.few);
      calm = c.calm ∙ r.calm;
      same_name = c.same_name ∙ r.same_name;
      is = λ t. r.is t
          ∙ (ap (λ (w : Recording). record { items = items ++ w.items; fault = w.fault }) (c.came t ∙ ap (λ (o : List ℕ). with_item (record_of item o) (to_come left next)) (sym same))
          ∙ ap (λ (xs : List Item). record { items = xs; fault = (to_come left next).fault }) (sym (append_assoc items (record_of item octets ∷ []) (to_come left next).items)));
    }

    -- the recording has no others
    pub all_read : ReadsRecord tells left faults name now next out (Ok None) → tells → to_come left before ≡ record { items = items; fault = None }
    all_read c t = r.is t
        ∙ (ap (λ (w : Recording). record { items = items ++ w.items; fault = w.fault }) (c.came t)
        ∙ ap (λ (xs : List Item). record { items = xs; fault = None }) (append-nil items))

    pub all_came : (Is : List Item → Type 0) → Is items → ReadsRecord tells left faults name now next out (Ok None) → SomeCame tells (to_come left before) Is
    all_came Is so c = record { items = items; so = so; is = all_read c }

    pub read_to_end : {T : Type 0} (answer : T) → ReadsRecord tells left faults name now next out (Ok None) → ReadsToEnd tells left faults name before next (Ok answer)
    read_to_end answer c = record {
      whole = λ t. ap (λ (w : Recording). w.fault) (all_read c t);
      fault = λ t. tt;
      failed = tt;
      calm = c.calm ∙ r.calm;
      never_falls = omega (arith, c.never_falls, r.calm);
      same_name = c.same_name ∙ r.same_name;
    }

    -- memory ran out behind a record
    pub read_partly : {T : Type 0} (found : Option DumpItem) (result : Result T RecordingFault) → IsErrAnd result (λ fault. fault ≡ NoMemory) → ReadsRecord tells left faults name now next out (Ok found) → ReadsToEnd tells left faults name before next result
    read_partly found result is c =
        let p = err_from_is_err_and result is in
        rw (p.1, p.2) (record {
          whole = λ t. tt;
          fault = λ t. tt;
          failed = λ source. absurd source;
          calm = tt;
          never_falls = omega (arith, c.never_falls, r.calm);
          same_name = c.same_name ∙ r.same_name;
        })

  -- ---- what is made of a recording
  module _ {T U : Type 0} (old new : DumpReader S) where
    -- it was read, and this is made of it
    pub made_of : (a : T) (b : U) → ReadsToEnd tells left faults name old new (Ok a) → ReadsToEnd tells left faults name old new (Ok b)
    made_of a b r = record { whole = r.whole; fault = λ t. tt; failed = tt; calm = r.calm; never_falls = r.never_falls; same_name = r.same_name }

    -- it was read, and memory ran out behind that
    pub made_partly : (a : T) → ReadsToEnd tells left faults name old new (Ok a) → ReadsToEnd {T = U} tells left faults name old new (Err NoMemory)
    made_partly a r = record { whole = λ t. tt; fault = λ t. tt; failed = λ source. absurd source; calm = tt; never_falls = r.never_falls; same_name = r.same_name }

    -- it was not read to its end
    pub made_none : (fault : RecordingFault) → ReadsToEnd {T = T} tells left faults name old new (Err fault) → ReadsToEnd {T = U} tells left faults name old new (Err fault)
    made_none fault r = record { whole = λ t. tt; fault = r.fault; failed = r.failed; calm = tt; never_falls = r.never_falls; same_name = r.same_name }

  -- nothing was read, since there was no memory
  pub not_read : {T : Type 0} (reader : DumpReader S) → ReadsToEnd {T = T} tells left faults name reader reader (Err NoMemory)
  not_read reader = record { whole = λ t. tt; fault = λ t. tt; failed = λ source. absurd source; calm = tt; never_falls = omega arith; same_name = refl }
