-- Every definition of Data.antt (loads and stores that do not schedule) is lawful.
use Prim.Native.Nat.{ℕ}
use Rattle.rules.specs.Data.{pushed, popped, adjusted, move_done, jump_by, entered, ldl, stl, ldnl, stnl, call_frame, call, ret, lb, sb, block_move, save_queue, saveh, savel, altend}
use Rattle.laws.proofs.Lawful.{Law, law, ◌then◌, lawful-put, lawful_read, lawful-r_index_byte, lawful-r_index_word, lawful-store_byte, lawful-transfer, lawful-w_index_word}

module _ {A : ℕ → Type 0} where
  pub lawful-pushed : Law A (λ mem. pushed)
  unfolding pushed
  lawful-pushed = law (λ w. (lawful-put _ _).at w then lawful-put _ _)

  pub lawful-popped : Law A (λ mem. popped)
  unfolding popped
  lawful-popped = law (λ w. (lawful-put _ _).at w then lawful-put _ _)

  pub lawful-adjusted : (n : ℕ) → Law A (λ mem. adjusted n)
  unfolding adjusted
  lawful-adjusted n = law (λ w. (lawful-put _ _).at w)

  pub lawful-move_done : (n : ℕ) → Law A (λ mem. move_done n)
  unfolding move_done
  lawful-move_done n = law (λ w. (lawful-put _ _).at w then lawful-put _ _ then lawful-put _ _)

  pub lawful-jump_by : (n : ℕ) → Law A (λ mem. jump_by n)
  unfolding jump_by
  lawful-jump_by n = law (λ w. (lawful-put _ _).at w)

  pub lawful-entered : Law A (λ mem. entered)
  unfolding entered
  lawful-entered = law (λ w. (lawful-put _ _).at w then lawful-adjusted _ then lawful-jump_by _)

  pub lawful-ldl : Law A ldl
  unfolding ldl
  lawful-ldl = law (λ w. lawful-pushed.at w then lawful-r_index_word _ _ _)

  pub lawful-stl : Law A stl
  unfolding stl
  lawful-stl = law (λ w. (lawful-w_index_word _ _ _).at w then lawful-popped)

  pub lawful-ldnl : Law A ldnl
  unfolding ldnl
  lawful-ldnl = law (λ w. (lawful-r_index_word _ _ _).at w)

  pub lawful-stnl : Law A stnl
  unfolding stnl
  lawful-stnl = law (λ w. (lawful-w_index_word _ _ _).at w then lawful-put _ _)

  pub lawful-call_frame : Law A call_frame
  unfolding call_frame
  lawful-call_frame = law (λ w. (lawful-w_index_word _ _ _).at w then lawful-w_index_word _ _ _ then lawful-w_index_word _ _ _ then lawful-w_index_word _ _ _)

  pub lawful-call : Law A call
  unfolding call
  lawful-call = law (λ w. lawful-call_frame.at w then lawful-entered)

  pub lawful-ret : Law A ret
  unfolding ret
  lawful-ret = law (λ w. (lawful-r_index_word _ _ _).at w then lawful-adjusted _)

  pub lawful-lb : Law A lb
  unfolding lb
  lawful-lb = law (λ w. (lawful-r_index_byte _ _).at w)

  pub lawful-sb : Law A sb
  unfolding sb
  lawful-sb = law (λ w. (lawful-store_byte _ _).at w then lawful-put _ _)

  pub lawful-block_move : Law A block_move
  unfolding block_move
  lawful-block_move = law (λ w. (lawful-transfer _ _ _).at w then lawful-move_done _)

  pub lawful-save_queue : (level : ℕ) → Law A (λ mem. save_queue mem level)
  unfolding save_queue
  lawful-save_queue level = law (λ w. (lawful-w_index_word _ _ _).at w then lawful-w_index_word _ _ _ then lawful-popped)

  pub lawful-saveh : Law A saveh
  lawful-saveh = law (λ w. (lawful-save_queue _).at w)

  pub lawful-savel : Law A savel
  lawful-savel = law (λ w. (lawful-save_queue _).at w)

  pub lawful-altend : Law A altend
  unfolding altend
  lawful-altend = law (λ w. (lawful_read _ lawful-jump_by).at w)
