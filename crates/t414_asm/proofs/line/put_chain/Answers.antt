use Rattle.assembly.proofs.Demands.{assemble-within}
use Rattle.t414_asm.proofs.line.put_chain.Goals as goal

pub returns-in_default : goal.returns-in_default
returns-in_default c = (tt, (assemble-within _ _ _ _ _ c.assemble.ensures).1)

pub returns-in_default-2 : goal.returns-in_default-2
returns-in_default-2 c = assemble-within _ _ _ _ _ c.assemble.ensures

pub returns-in-Err-TooLong : goal.returns-in-Err-TooLong
returns-in-Err-TooLong c =
    rw ((assemble-within _ _ _ _ _ c.assemble.ensures).1) at (assemble-within _ _ _ _ _ c.assemble-in-Err-TooLong.ensures)
