-- What the folder knows of its last call.
use Rattle.std.specs.Prelude.{◌≡◌, ℕ, ◌-◌, ◌↔◌, List, ◌++◌, length, take, replicate, Option, Some, None}
use Rattle.std.specs.Prelude.{IfSome, IsSomeAnd, Result, Ok, Err, MatchResult}
use Rattle.std.specs.IoError.{error_kind}
use Rattle.std.specs.declared.io.Error.{Error}
use Rattle.std.specs.declared.io.ErrorKind.TheVariants.{OutOfMemory}
use Rattle.gx_outside.specs.declared.devices.Load.{Load}
use Rattle.gx_outside.specs.declared.devices.Load.TheVariants as of_load
use Rattle.gx_outside.specs.declared.devices.ShelfFault.{ShelfFault}
use Rattle.gx_outside.specs.declared.devices.ShelfFault.TheVariants.{NoMemory}
use Rattle.gx_outside.specs.Shelves.{Exchange, Request, Answer, load_file, store_file, remove_file, find_file, loaded}
use Rattle.gx_devices.specs.declared.last.Act.{Act}
use Rattle.gx_devices.specs.declared.last.Act.TheVariants.{Read, Store, Remove, Find}
use Rattle.gx_devices.specs.declared.last.Found.{Found}

-- A call: the name of its file, if that is kept; what was asked; why it failed, if it did; what was read, if anything.
pub record FlatCall : Type 0 where
  pub name : Option (List ℕ)
  pub act : Act
  pub error : Option Error
  pub found : Option Found

-- the first 36 bytes of a file, and zeros where it has none
abbrev pub front_of : List ℕ → List ℕ
front_of bytes = take 36 bytes ++ replicate (36 - length bytes) 0

-- what is known of a file's bytes once it was loaded: nothing new where nothing was handed out
abbrev pub found_of : Load → Option Found → Option Found
found_of (of_load.Found bytes) known = Some (record { len = length bytes; front = front_of bytes })
found_of load known = known

-- a call with what its load answered
abbrev pub looked : Result Load ShelfFault → FlatCall → FlatCall
looked (Ok load) call = record call { found = found_of load call.found }
looked (Err fault) call = call

-- A call of this kind, of the file of this name, which failed for this reason if for any. The name may be left out, for
-- want of memory.
pub record IsCallOf (kind : Act) (file : List ℕ) (reason : Option Error) (call : FlatCall) : Type 0 where
  pub act : call.act ≡ kind
  pub name : IfSome call.name (λ name. name ≡ file)
  pub error : call.error ≡ reason
  pub found : call.found ≡ None

-- what a request asks of a file, and of which one
abbrev pub act_of : Request → Act
act_of (load_file name most) = Read
act_of (store_file name bytes) = Store
act_of (remove_file name) = Remove
act_of (find_file name) = Find

abbrev pub name_of : Request → List ℕ
name_of (load_file name most) = name
name_of (store_file name bytes) = name
name_of (remove_file name) = name
name_of (find_file name) = name

-- the file that was handed out
abbrev pub found_in : Result Answer ShelfFault → Option Found
found_in (Ok (loaded load)) = found_of load None
found_in answer = None

-- What is kept of a call of the shelf. There is an error where it was refused, and it is of want of memory where the
-- answer is.
pub record IsNoted (c : Exchange) (call : FlatCall) : Type 0 where
  pub act : call.act ≡ act_of c.0
  pub name : IfSome call.name (λ name. name ≡ name_of c.0)
  pub error : MatchResult c.1 (λ answer. call.error ≡ None)
      (λ fault. IsSomeAnd call.error (λ error. (fault ≡ NoMemory) ↔ (error_kind error ≡ OutOfMemory)))
  pub found : call.found ≡ found_in c.1
