-- What is known of an item that a worker has.

-- a pull gave the item, with the value that it found there
pub record WasPulled {H T : Type 0} (with_value : H → T → H) (is_pulled : H → Type 0) (item : H) : Type 0 where
  pub found : T
  pub pulled : is_pulled (with_value item found)
