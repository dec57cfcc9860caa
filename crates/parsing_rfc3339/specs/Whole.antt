-- What the longest usual texts of a moment in UTC have, with nine digits of a second's fraction, `T` and `Z`.
use Rattle.std.specs.Prelude.{◌≡◌, ℕ, List, get_or, length}
use Rattle.base.specs.Bytes.{upper_z}

-- a text has its length and its letters, whatever else it is
pub record IsLikeWhole (text : List ℕ) : Type 0 where
  pub size : length text ≡ 30
  pub before_time : get_or text 10 0 ≡ 84
  pub in_utc : get_or text 29 0 ≡ upper_z
