-- Functions and operations that load and store and do not schedule (000 1.11).
use Rattle.std.specs.Prelude.{ℕ, ◌%◌, List}
use Rattle.std.specs.Int.Bits.{bit_or}
use Rattle.rules.specs.Words.{minus, at_byte, at_word}
use Rattle.rules.specs.Registers.{iptr_reg, wdesc_reg, areg, breg, creg, oreg, fptr_reg, bptr_reg}
use Rattle.rules.specs.Work.{Work, reg, put, wptr, priority, read_word, store_byte, r_index_word, r_index_byte, w_index_word, transfer}

-- Creg := Breg; Breg := Areg (000 1.11, load local)
unfoldable pub pushed : Work → Work
pushed w = put breg (reg areg w) (put creg (reg breg w) w)

-- Areg := Breg; Breg := Creg (000 1.11, store local)
unfoldable pub popped : Work → Work
popped w = put breg (reg creg w) (put areg (reg breg w) w)

-- AtWord (Wptr, n, temp); UpdateWdescReg (temp BITOR Priority) (000 1.11, call and return; DECISIONS 12)
unfoldable pub adjusted : ℕ → Work → Work
adjusted n w = put wdesc_reg (bit_or (at_word (wptr w) n) (priority w)) w

-- the registers after a move of n bytes: 000's parameters are references (DECISIONS 14)
unfoldable pub move_done : ℕ → Work → Work
move_done n w = put areg 0 (put breg (at_byte (reg breg w) n) (put creg (at_byte (reg creg w) n) w))

-- AtByte (IptrReg, n, IptrReg) (000 1.11, call and alt end)
unfoldable pub jump_by : ℕ → Work → Work
jump_by n w = put iptr_reg (at_byte (reg iptr_reg w) n) w

-- the end of call, from Areg := IptrReg on (000 1.11, call)
unfoldable pub entered : Work → Work
entered w = jump_by (reg oreg w) (adjusted (minus 4) (put areg (reg iptr_reg w) w))

module _ (m : List ℕ) where
  -- load local (000 1.11)
  unfoldable pub ldl : Work → Work
  ldl w = r_index_word m (wptr w) (reg oreg w) areg (pushed w)

  -- store local (000 1.11)
  unfoldable pub stl : Work → Work
  stl w = popped (w_index_word m (wptr w) (reg oreg w) (reg areg w) w)

  -- load non-local (000 1.11)
  unfoldable pub ldnl : Work → Work
  ldnl w = r_index_word m (reg areg w) (reg oreg w) areg w

  -- store non-local: Breg and Creg keep (DECISIONS 8)
  unfoldable pub stnl : Work → Work
  stnl w = put areg (reg creg w) (w_index_word m (reg areg w) (reg oreg w) (reg breg w) w)

  -- the four stores of call (000 1.11, call)
  unfoldable pub call_frame : Work → Work
  call_frame w =
      w_index_word m (wptr w) (minus 4) (reg iptr_reg w)
      (w_index_word m (wptr w) (minus 3) (reg areg w)
      (w_index_word m (wptr w) (minus 2) (reg breg w) (w_index_word m (wptr w) (minus 1) (reg creg w) w)))

  -- call (000 1.11)
  unfoldable pub call : Work → Work
  call w = entered (call_frame w)

  -- return (000 1.11)
  unfoldable pub ret : Work → Work
  ret w = adjusted 4 (r_index_word m (wptr w) 0 iptr_reg w)

  -- load byte (000 1.11)
  unfoldable pub lb : Work → Work
  lb w = r_index_byte m (reg areg w) areg w

  -- store byte: the low byte of Breg; Breg and Creg keep (DECISIONS 8)
  unfoldable pub sb : Work → Work
  sb w = put areg (reg creg w) (store_byte m (reg areg w) (reg breg w % 256) w)

  -- move message: the block move in one step (01, One step)
  unfoldable pub block_move : Work → Work
  block_move w = move_done (reg areg w) (transfer m (reg creg w) (reg breg w) (reg areg w) w)

  -- saveh and savel: save the queue registers of a level (000 1.11)
  unfoldable pub save_queue : ℕ → Work → Work
  save_queue level w =
      popped
      (w_index_word m (reg areg w) 1 (reg (bptr_reg level) w)
      (w_index_word m (reg areg w) 0 (reg (fptr_reg level) w) w))

  -- save high priority queue registers (000 1.11)
  abbrev pub saveh : Work → Work
  saveh w = save_queue 0 w

  -- save low priority queue registers (000 1.11)
  abbrev pub savel : Work → Work
  savel w = save_queue 1 w

  -- alt end (000 1.11)
  unfoldable pub altend : Work → Work
  altend w = read_word m (at_word (wptr w) 0) jump_by w
