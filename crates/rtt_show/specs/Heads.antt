-- The front of a recording, which was read and is given again.
use Rattle.std.specs.Prelude.{◌≡◌, ℕ, ◌⊎◌, List, [], ◌++◌, length, take, drop}
use Rattle.rtt_show.specs.declared.heads.HeadReader.{HeadReader}

module _ {S : Type 0} where
  -- what was read and is still to be given
  abbrev pub held : HeadReader S → List ℕ
  held o = drop o.given (take o.size o.front)

  -- all that is still to be read
  abbrev pub left_of : (S → List ℕ) → HeadReader S → List ℕ
  left_of left o = held o ++ left o.source

  -- the first octets were read: as many as there is room for, or all
  pub record LooksAt (left : S → List ℕ) (old new : HeadReader S) : Type 0 where
    pub is : left old.source ≡ take new.size new.front ++ left new.source
    pub room : length new.front ≡ 144
    pub whole : (new.size ≡ 144) ⊎ (left new.source ≡ [])
