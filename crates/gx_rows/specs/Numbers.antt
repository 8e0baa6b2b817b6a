-- The numbers of the instructions, each by its name in the standard (Glulx 3.1.2, "Dictionary of Opcodes"): those that
-- are spelled in one byte, and those that are spelled in two.
pub use Rattle.gx_rows.specs.ShortNumbers.{nop, add, sub, mul, div, mod_, neg, bitand, bitor, bitxor, bitnot, shiftl}
pub use Rattle.gx_rows.specs.ShortNumbers.{sshiftr, ushiftr, jump, jz, jnz, jeq, jne, jlt, jge, jgt, jle, jltu, jgeu}
pub use Rattle.gx_rows.specs.ShortNumbers.{jgtu, jleu, call, return, catch, throw, tailcall, copy, copys, copyb, sexs}
pub use Rattle.gx_rows.specs.ShortNumbers.{sexb, aload, aloads, aloadb, aloadbit, astore, astores, astoreb, astorebit}
pub use Rattle.gx_rows.specs.ShortNumbers.{stkcount, stkpeek, stkswap, stkroll, stkcopy, streamchar, streamnum}
pub use Rattle.gx_rows.specs.ShortNumbers.{streamstr, streamunichar}
pub use Rattle.gx_rows.specs.LongNumbers.{gestalt, debugtrap, getmemsize, setmemsize, jumpabs, random, setrandom, quit}
pub use Rattle.gx_rows.specs.LongNumbers.{verify, restart, save, restore, saveundo, restoreundo, protect, hasundo}
pub use Rattle.gx_rows.specs.LongNumbers.{discardundo, glk, getstringtbl, setstringtbl, getiosys, setiosys}
pub use Rattle.gx_rows.specs.LongNumbers.{linearsearch, binarysearch, linkedsearch, callf, callfi, callfii, callfiii}
pub use Rattle.gx_rows.specs.LongNumbers.{mzero, mcopy, malloc, mfree, accelfunc, accelparam}
