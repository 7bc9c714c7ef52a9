pub mod SizeHelpers
