-- The constants of the code are the definitions' numbers.
use Rattle.std.proofs.Common.{◌≡◌, refl}
use Rattle.gx_rows.specs.declared.numbers.TheConstants as code
use Rattle.gx_rows.specs.declared.instructions.TheConstants as table
use Rattle.gx_rows.specs.declared.capabilities.TheConstants as selector
use Rattle.gx_rows.specs.declared.modes.TheConstants as mode
use Rattle.gx_rows.specs.Gestalts.{glulx_version, terp_version, resize_mem, undo, io_system, unicode, mem_copy}
use Rattle.gx_rows.specs.Gestalts.{m_alloc, m_alloc_heap, extended_undo}
use Rattle.gx_rows.specs.Table.{row_count}
use Rattle.gx_rows.specs.Modes as modes
use Rattle.gx_rows.specs.Numbers as numbers

pub NOP_is : code.NOP ≡ numbers.nop
NOP_is = refl

pub ADD_is : code.ADD ≡ numbers.add
ADD_is = refl

pub SUB_is : code.SUB ≡ numbers.sub
SUB_is = refl

pub MUL_is : code.MUL ≡ numbers.mul
MUL_is = refl

pub DIV_is : code.DIV ≡ numbers.div
DIV_is = refl

pub MOD_is : code.MOD ≡ numbers.mod_
MOD_is = refl

pub NEG_is : code.NEG ≡ numbers.neg
NEG_is = refl

pub BITAND_is : code.BITAND ≡ numbers.bitand
BITAND_is = refl

pub BITOR_is : code.BITOR ≡ numbers.bitor
BITOR_is = refl

pub BITXOR_is : code.BITXOR ≡ numbers.bitxor
BITXOR_is = refl

pub BITNOT_is : code.BITNOT ≡ numbers.bitnot
BITNOT_is = refl

pub SHIFTL_is : code.SHIFTL ≡ numbers.shiftl
SHIFTL_is = refl

pub SSHIFTR_is : code.SSHIFTR ≡ numbers.sshiftr
SSHIFTR_is = refl

pub USHIFTR_is : code.USHIFTR ≡ numbers.ushiftr
USHIFTR_is = refl

pub JUMP_is : code.JUMP ≡ numbers.jump
JUMP_is = refl

pub JZ_is : code.JZ ≡ numbers.jz
JZ_is = refl

pub JNZ_is : code.JNZ ≡ numbers.jnz
JNZ_is = refl

pub JEQ_is : code.JEQ ≡ numbers.jeq
JEQ_is = refl

pub JNE_is : code.JNE ≡ numbers.jne
JNE_is = refl

pub JLT_is : code.JLT ≡ numbers.jlt
JLT_is = refl

pub JGE_is : code.JGE ≡ numbers.jge
JGE_is = refl

pub JGT_is : code.JGT ≡ numbers.jgt
JGT_is = refl

pub JLE_is : code.JLE ≡ numbers.jle
JLE_is = refl

pub JLTU_is : code.JLTU ≡ numbers.jltu
JLTU_is = refl

pub JGEU_is : code.JGEU ≡ numbers.jgeu
JGEU_is = refl

pub JGTU_is : code.JGTU ≡ numbers.jgtu
JGTU_is = refl

pub JLEU_is : code.JLEU ≡ numbers.jleu
JLEU_is = refl

pub CALL_is : code.CALL ≡ numbers.call
CALL_is = refl

pub RETURN_is : code.RETURN ≡ numbers.return
RETURN_is = refl

pub CATCH_is : code.CATCH ≡ numbers.catch
CATCH_is = refl

pub THROW_is : code.THROW ≡ numbers.throw
THROW_is = refl

pub TAILCALL_is : code.TAILCALL ≡ numbers.tailcall
TAILCALL_is = refl

pub COPY_is : code.COPY ≡ numbers.copy
COPY_is = refl

pub COPYS_is : code.COPYS ≡ numbers.copys
COPYS_is = refl

pub COPYB_is : code.COPYB ≡ numbers.copyb
COPYB_is = refl

pub SEXS_is : code.SEXS ≡ numbers.sexs
SEXS_is = refl

pub SEXB_is : code.SEXB ≡ numbers.sexb
SEXB_is = refl

pub ALOAD_is : code.ALOAD ≡ numbers.aload
ALOAD_is = refl

pub ALOADS_is : code.ALOADS ≡ numbers.aloads
ALOADS_is = refl

pub ALOADB_is : code.ALOADB ≡ numbers.aloadb
ALOADB_is = refl

pub ALOADBIT_is : code.ALOADBIT ≡ numbers.aloadbit
ALOADBIT_is = refl

pub ASTORE_is : code.ASTORE ≡ numbers.astore
ASTORE_is = refl

pub ASTORES_is : code.ASTORES ≡ numbers.astores
ASTORES_is = refl

pub ASTOREB_is : code.ASTOREB ≡ numbers.astoreb
ASTOREB_is = refl

pub ASTOREBIT_is : code.ASTOREBIT ≡ numbers.astorebit
ASTOREBIT_is = refl

pub STKCOUNT_is : code.STKCOUNT ≡ numbers.stkcount
STKCOUNT_is = refl

pub STKPEEK_is : code.STKPEEK ≡ numbers.stkpeek
STKPEEK_is = refl

pub STKSWAP_is : code.STKSWAP ≡ numbers.stkswap
STKSWAP_is = refl

pub STKROLL_is : code.STKROLL ≡ numbers.stkroll
STKROLL_is = refl

pub STKCOPY_is : code.STKCOPY ≡ numbers.stkcopy
STKCOPY_is = refl

pub STREAMCHAR_is : code.STREAMCHAR ≡ numbers.streamchar
STREAMCHAR_is = refl

pub STREAMNUM_is : code.STREAMNUM ≡ numbers.streamnum
STREAMNUM_is = refl

pub STREAMSTR_is : code.STREAMSTR ≡ numbers.streamstr
STREAMSTR_is = refl

pub STREAMUNICHAR_is : code.STREAMUNICHAR ≡ numbers.streamunichar
STREAMUNICHAR_is = refl

pub GESTALT_is : code.GESTALT ≡ numbers.gestalt
GESTALT_is = refl

pub DEBUGTRAP_is : code.DEBUGTRAP ≡ numbers.debugtrap
DEBUGTRAP_is = refl

pub GETMEMSIZE_is : code.GETMEMSIZE ≡ numbers.getmemsize
GETMEMSIZE_is = refl

pub SETMEMSIZE_is : code.SETMEMSIZE ≡ numbers.setmemsize
SETMEMSIZE_is = refl

pub JUMPABS_is : code.JUMPABS ≡ numbers.jumpabs
JUMPABS_is = refl

pub RANDOM_is : code.RANDOM ≡ numbers.random
RANDOM_is = refl

pub SETRANDOM_is : code.SETRANDOM ≡ numbers.setrandom
SETRANDOM_is = refl

pub QUIT_is : code.QUIT ≡ numbers.quit
QUIT_is = refl

pub VERIFY_is : code.VERIFY ≡ numbers.verify
VERIFY_is = refl

pub RESTART_is : code.RESTART ≡ numbers.restart
RESTART_is = refl

pub SAVE_is : code.SAVE ≡ numbers.save
SAVE_is = refl

pub RESTORE_is : code.RESTORE ≡ numbers.restore
RESTORE_is = refl

pub SAVEUNDO_is : code.SAVEUNDO ≡ numbers.saveundo
SAVEUNDO_is = refl

pub RESTOREUNDO_is : code.RESTOREUNDO ≡ numbers.restoreundo
RESTOREUNDO_is = refl

pub PROTECT_is : code.PROTECT ≡ numbers.protect
PROTECT_is = refl

pub HASUNDO_is : code.HASUNDO ≡ numbers.hasundo
HASUNDO_is = refl

pub DISCARDUNDO_is : code.DISCARDUNDO ≡ numbers.discardundo
DISCARDUNDO_is = refl

pub GLK_is : code.GLK ≡ numbers.glk
GLK_is = refl

pub GETSTRINGTBL_is : code.GETSTRINGTBL ≡ numbers.getstringtbl
GETSTRINGTBL_is = refl

pub SETSTRINGTBL_is : code.SETSTRINGTBL ≡ numbers.setstringtbl
SETSTRINGTBL_is = refl

pub GETIOSYS_is : code.GETIOSYS ≡ numbers.getiosys
GETIOSYS_is = refl

pub SETIOSYS_is : code.SETIOSYS ≡ numbers.setiosys
SETIOSYS_is = refl

pub LINEARSEARCH_is : code.LINEARSEARCH ≡ numbers.linearsearch
LINEARSEARCH_is = refl

pub BINARYSEARCH_is : code.BINARYSEARCH ≡ numbers.binarysearch
BINARYSEARCH_is = refl

pub LINKEDSEARCH_is : code.LINKEDSEARCH ≡ numbers.linkedsearch
LINKEDSEARCH_is = refl

pub CALLF_is : code.CALLF ≡ numbers.callf
CALLF_is = refl

pub CALLFI_is : code.CALLFI ≡ numbers.callfi
CALLFI_is = refl

pub CALLFII_is : code.CALLFII ≡ numbers.callfii
CALLFII_is = refl

pub CALLFIII_is : code.CALLFIII ≡ numbers.callfiii
CALLFIII_is = refl

pub MZERO_is : code.MZERO ≡ numbers.mzero
MZERO_is = refl

pub MCOPY_is : code.MCOPY ≡ numbers.mcopy
MCOPY_is = refl

pub MALLOC_is : code.MALLOC ≡ numbers.malloc
MALLOC_is = refl

pub MFREE_is : code.MFREE ≡ numbers.mfree
MFREE_is = refl

pub ACCELFUNC_is : code.ACCELFUNC ≡ numbers.accelfunc
ACCELFUNC_is = refl

pub ACCELPARAM_is : code.ACCELPARAM ≡ numbers.accelparam
ACCELPARAM_is = refl

pub ROW_COUNT_is : table.ROW_COUNT ≡ row_count
ROW_COUNT_is = refl

pub GLULX_VERSION_is : selector.GLULX_VERSION ≡ glulx_version
GLULX_VERSION_is = refl

pub TERP_VERSION_is : selector.TERP_VERSION ≡ terp_version
TERP_VERSION_is = refl

pub RESIZE_MEM_is : selector.RESIZE_MEM ≡ resize_mem
RESIZE_MEM_is = refl

pub UNDO_is : selector.UNDO ≡ undo
UNDO_is = refl

pub IO_SYSTEM_is : selector.IO_SYSTEM ≡ io_system
IO_SYSTEM_is = refl

pub UNICODE_is : selector.UNICODE ≡ unicode
UNICODE_is = refl

pub MEM_COPY_is : selector.MEM_COPY ≡ mem_copy
MEM_COPY_is = refl

pub M_ALLOC_is : selector.M_ALLOC ≡ m_alloc
M_ALLOC_is = refl

pub M_ALLOC_HEAP_is : selector.M_ALLOC_HEAP ≡ m_alloc_heap
M_ALLOC_HEAP_is = refl

pub EXTENDED_UNDO_is : selector.EXTENDED_UNDO ≡ extended_undo
EXTENDED_UNDO_is = refl

pub CONSTANT_ZERO_is : mode.CONSTANT_ZERO ≡ modes.constant_zero
CONSTANT_ZERO_is = refl

pub CONSTANT_BYTE_is : mode.CONSTANT_BYTE ≡ modes.constant_byte
CONSTANT_BYTE_is = refl

pub CONSTANT_SHORT_is : mode.CONSTANT_SHORT ≡ modes.constant_short
CONSTANT_SHORT_is = refl

pub CONSTANT_WORD_is : mode.CONSTANT_WORD ≡ modes.constant_word
CONSTANT_WORD_is = refl

pub ADDRESS_BYTE_is : mode.ADDRESS_BYTE ≡ modes.address_byte
ADDRESS_BYTE_is = refl

pub ADDRESS_SHORT_is : mode.ADDRESS_SHORT ≡ modes.address_short
ADDRESS_SHORT_is = refl

pub ADDRESS_WORD_is : mode.ADDRESS_WORD ≡ modes.address_word
ADDRESS_WORD_is = refl

pub STACK_TOP_is : mode.STACK_TOP ≡ modes.stack_top
STACK_TOP_is = refl

pub LOCAL_BYTE_is : mode.LOCAL_BYTE ≡ modes.local_byte
LOCAL_BYTE_is = refl

pub LOCAL_SHORT_is : mode.LOCAL_SHORT ≡ modes.local_short
LOCAL_SHORT_is = refl

pub LOCAL_WORD_is : mode.LOCAL_WORD ≡ modes.local_word
LOCAL_WORD_is = refl

pub RAM_BYTE_is : mode.RAM_BYTE ≡ modes.ram_byte
RAM_BYTE_is = refl

pub RAM_SHORT_is : mode.RAM_SHORT ≡ modes.ram_short
RAM_SHORT_is = refl

pub RAM_WORD_is : mode.RAM_WORD ≡ modes.ram_word
RAM_WORD_is = refl
