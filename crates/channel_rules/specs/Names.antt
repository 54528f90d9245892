-- Parts of the text, and how a channel's name splits into prefix and suffix.
use Rattle.std.specs.Prelude.{◌≡◌, ℕ, suc, ◌+◌, ◌<◌, ◌≤◌, cond, List, [], ◌∷◌, length, take, drop, ◌==◌, ◌≢◌, slice_index}
use Rattle.channel_rules.specs.declared.records.Part.{Part}
use Rattle.channel_rules.specs.declared.records.ChannelDescription.{ChannelDescription}

-- the part lies in the text
abbrev pub Inside : List ℕ → Part → Type 0
Inside text p = p.start + p.len ≤ length text

-- its bytes
abbrev pub bytes : List ℕ → Part → List ℕ
bytes text p = take p.len (drop p.start text)

-- The first n bytes of a name are its prefix, the others its suffix:
-- the suffix has no dot (46), and the prefix is empty or ends in one.
pub record Splits (name : List ℕ) (n : ℕ) : Type 0 where
  pub within : n ≤ length name
  pub plain : (k : ℕ) → n ≤ k → k < length name → slice_index name k ≢ 46
  pub dotted : (k : ℕ) → k + 1 ≡ n → slice_index name k ≡ 46

-- the length of the prefix, 0 where the name has no dot
abbrev pub cut : List ℕ → ℕ
cut [] = 0
cut (b ∷ bs) = cond (cut bs == 0) (cond (b == 46) 1 0) (suc (cut bs))

-- all of the channel's name up to its last dot
abbrev pub prefix_in : List ℕ → ChannelDescription → List ℕ
prefix_in text c = take (cut (bytes text c.name)) (bytes text c.name)

-- what follows
abbrev pub suffix_in : List ℕ → ChannelDescription → List ℕ
suffix_in text c = drop (cut (bytes text c.name)) (bytes text c.name)
