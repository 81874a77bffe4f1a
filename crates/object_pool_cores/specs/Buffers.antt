-- What a buffer pool and its buffers show.
use Rattle.std.specs.Prelude.{ℕ, List, Option, vec_capacity}
use Rattle.std.specs.Global.{Vec}
use Rattle.linear_pools.specs.LinearPool.{linear_view}
use Rattle.page_chain.specs.Walk.{IsWalkedTo, page_of_item}
use Rattle.object_pool_cores.specs.declared.buffers.BufferPool.{BufferPool}
use Rattle.object_pool_cores.specs.declared.buffers.buffer.Buffer.{Buffer}

module _ {I R K : Type 0} where
  -- what makes the pool's buffers
  abbrev pub maker_of : BufferPool I R (Vec ℕ) K → I
  maker_of buffers = (linear_view buffers.pool).init

  -- how many pages the pool may have
  abbrev pub limit_of_pages : BufferPool I R (Vec ℕ) K → Option ℕ
  limit_of_pages buffers = (linear_view buffers.pool).limit

  -- the buffer is of the pool's page of the number that it shows
  abbrev pub IsOnItsPage : BufferPool I R (Vec ℕ) K → Buffer I R (Vec ℕ) K → Type 0
  IsOnItsPage buffers buffer =
      IsWalkedTo (linear_view buffers.pool).start buffer.item.number (page_of_item buffer.item.item)

  -- the bytes in the buffer
  abbrev pub bytes_of : Buffer I R (Vec ℕ) K → List ℕ
  bytes_of buffer = buffer.item.item.value.items

  -- how many bytes the buffer has room for, those in it counted too
  abbrev pub capacity_of : Buffer I R (Vec ℕ) K → ℕ
  capacity_of buffer = vec_capacity buffer.item.item.value

  -- the number of the buffer's page in the pool
  abbrev pub page_of : Buffer I R (Vec ℕ) K → ℕ
  page_of buffer = buffer.item.number.number

  -- the number of the buffer in its page
  abbrev pub buffer_id : Buffer I R (Vec ℕ) K → ℕ
  buffer_id buffer = buffer.item.item.id
